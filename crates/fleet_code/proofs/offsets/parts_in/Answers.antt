use Rattle.fleet_code.proofs.Words.{◌≡◌, ◌≢◌, ◌-◌, arith, ap, length, sym, ◌∙◌, eqb-true, eqb-false, err_from_is_err_and}
use Rattle.fleet_code.proofs.Heads.{head_fails, agents_fail, program_is, bytes_follow}
use Rattle.fleet_code.proofs.offsets.parts_in.Goals as goal

pub returns-in_err-agents : goal.returns-in_err-agents
returns-in_err-agents c =
    let p = err_from_is_err_and c.from_residual.result c.from_residual.ensures.1 in
    rw (p.1, p.2) (λ other. head_fails c.args.version c.args.bytes.now c.in_err-agents.field-0.0 (c.in_err-agents.ensures.value other))

pub returns-in_err-parts : goal.returns-in_err-parts
returns-in_err-parts c =
    let p = err_from_is_err_and c.from_residual-in_err-parts.result c.from_residual-in_err-parts.ensures.1 in
    rw (p.1, p.2) (λ other. agents_fail c.args.version c.args.bytes.now _ c.in_ok-agents.ensures.value c.in_err-parts.field-0.0 (c.in_err-parts.ensures.value other))

pub returns-then-not-is_empty : goal.returns-then-not-is_empty
returns-then-not-is_empty c =
    let found = c.in_ok-parts.ensures.value in
    let some : length c.in_ok-parts.rest.now ≢ 0 = eqb-false (length c.in_ok-parts.rest.now) 0 (sym c.if-not-is_empty.ensures) in
    λ other. rw found.2.1 (bytes_follow c.args.version c.args.bytes.now _ c.in_ok-agents.ensures.value found.0 found.1 (λ e. some (ap length found.2.1 ∙ e)))

pub returns : goal.returns
returns c =
    let found = c.in_ok-parts.ensures.value in
    let six = c.in_ok-agents.ensures.long in
    let none = c.if-not-is_empty.ensures in
    let head : length c.args.bytes.now - length c.in_ok-agents.rest.now ≡ 6 = omega (arith, six) in (
      found.0.0,
      program_is c.args.version c.args.bytes.now _ c.in_ok-agents.ensures.value found.0 found.1 (sym (ap length found.2.1) ∙ eqb-true (length c.in_ok-parts.rest.now) 0 (sym none)),
      rw head at found.2.0,
    )
