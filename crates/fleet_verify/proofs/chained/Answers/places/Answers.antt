use Rattle.fleet_verify.proofs.Words.{◌≡◌, ℕ, Some, eqb, subst, sym, ap, ◌∙◌, arith, slice_get-get_or, slice_get_within, nat_eq, get}
use Rattle.fleet_verify.proofs.Asked.{place_more}
use Rattle.fleet_verify.proofs.chained.Answers.places.Goals as goal

pub loop-k-preserved : goal.loop-k-preserved
loop-k-preserved c =
    let asked = c.args.self.now.questions.items in
    let k = c.loop-k.k in
    let q = c.index.result.now in
    let old = get nat_eq c.loop-k.places in
    let new = get nat_eq c.insert.new.self in
    let updates = c.in_ok-insert.ensures.updates in
    place_more asked k q old new (slice_get-get_or asked k q (omega (arith, c.loop-k-test.true)) ∙ ap Some (sym c.index.ensures)) c.key.ensures.number
    (subst (λ (n : ℕ). new n ≡ Some k) c.key.ensures.key updates.1) (λ n other. updates.2 n (ap (λ (x : ℕ). eqb x n) c.key.ensures.key ∙ other)) c.loop-k.invariant

pub returns : goal.returns
returns c =
    λ apart k q is.
    (c.loop-k.invariant k q (omega (arith, slice_get_within c.args.self.now.questions.items k q is, c.loop-k-test.false)) is).1 apart
