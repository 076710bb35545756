use Rattle.fleet_verify.proofs.Words.{get_or, slice_get-get_or, Visit, nat_eq, get, OpenPair, IsFlagged, ◌≡◌, ℕ, length, subst, arith, AnswersFirstBad}
use Rattle.fleet_verify.proofs.OpenPairs.{first_next, first_skip}
use Rattle.fleet_verify.proofs.order.first_flagged.Goals.{then-has_no_chain+in_ok-keep_first, else-has_no_chain}
use Rattle.fleet_verify.proofs.order.first_flagged.Goals as goal

pub loop-k-preserved : goal.loop-k-preserved
loop-k-preserved c = λ n.
    let pairs = c.args.pairs.now in
    let k = c.loop-k.k in
    let none : Visit = record { agent = 0; position = 0 } in
    let d : OpenPair = record { cell = record { x = 0; y = 0 }; first = none; second = none } in
    elim c.if-has_no_chain.branch [
      | then-has_no_chain+in_ok-keep_first w ↦
          let kept = w.in_ok-keep_first.ensures in
          rw w.found-is
          (first_next (IsFlagged c.args.flags.now) pairs k n (get_or pairs k d) (get nat_eq c.loop-k.found n) (get nat_eq w.keep_first.new.found n) (c.loop-k.invariant n) (slice_get-get_or pairs k d c.loop-k-test.true) w.if-has_no_chain.true
          (kept.others n) (λ e. rw e at kept.here))
      | else-has_no_chain w ↦
          rw w.found-is
          (first_skip (IsFlagged c.args.flags.now) pairs k n (get nat_eq c.loop-k.found n) (c.loop-k.invariant n) (λ none o e f b. let no_flag = w.if-has_no_chain.false in absurd cc))
    ]

pub returns : goal.returns
returns c = λ n.
    let pairs = c.args.pairs.now in
    let all : c.loop-k.k ≡ length pairs = omega (arith, c.loop-k-test.false) in
    subst (λ (k : ℕ). AnswersFirstBad (IsFlagged c.args.flags.now) pairs k n (get nat_eq c.loop-k.found n)) all (c.loop-k.invariant n)
