use Rattle.fleet_code.proofs.Words.{◌≡◌, ◌-◌, ◌∷◌, ℕ, suc, List, Ok, sym, ap, ◌∙◌, subst, arith, range_with_len, length-range_with_len, actions_at, opcodes}
use Rattle.fleet_code.proofs.Bare.{bare_later}
use Rattle.fleet_code.proofs.offsets.bare_after_first.Goals as goal

pub returns-clause-value : goal.returns-clause-value
returns-clause-value c =
    let head = c.args.head in
    let count = c.args.count in
    let first = c.in-Ok.ensures.value in
    let bare = c.are_bare.ensures.0 c.if-not-are_bare.false in
    let more : count ≡ suc (count - 1) = omega (arith, c.if-count-eq0.false) in
    let found = bare_later head.version (count - 1) head.whole head.agents c.args.own c.args.bytes.now c.in-Ok.found.1.now first.0.0 (first.1 ∙ ap (λ (rest : List ℕ). Ok (first.0.0, rest)) (sym first.2.1)) bare.there bare.steps in (
      found.0,
      subst (λ (m : ℕ). actions_at head.version m head.whole head.agents c.args.own c.args.bytes.now ≡ Ok (found.0, c.split_at.result.1.now)) (sym more) (found.1 ∙ ap (λ (rest : List ℕ). Ok (found.0, rest)) (sym c.split_at.ensures.back)),
      c.in_ok-bare_after.ensures ∙ (ap (λ (k : ℕ). 0 ∷ range_with_len k count) first.2.0 ∙ (ap (λ (m : ℕ). 0 ∷ range_with_len (opcodes first.0.0) m) more ∙ found.2)),
    )

pub returns-clause-count : goal.returns-clause-count
returns-clause-count c = rw c.in_ok-bare_after.ensures (omega (arith, length-range_with_len c.in-Ok.found.0 c.args.count))
