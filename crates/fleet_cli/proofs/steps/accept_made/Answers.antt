use Rattle.std.proofs.Common.{◌≡◌, ◌∙◌, Result, Ok, ap, sym, subst}
use Rattle.fleet_model.specs.{Program.Program, Accepted.IsAccepted}
use Rattle.fleet_grid.specs.Ground.{is_passable}
use Rattle.fleet_code.specs.{Offsets.Viewed, declared.fault.LoadFault.LoadFault}
use Rattle.fleet_cli.proofs.steps.accept_made.Goals as goal

ok_program : {p q : Program} → ◌≡◌ {A = Result Program LoadFault} (Ok p) (Ok q) → p ≡ q
ok_program e = cc

pub unreachable-requires : goal.unreachable-requires
unreachable-requires c = c.in-Err.ensures.refused c.in_default.not-OutOfMemory c.requires.0 c.requires.1

pub unreachable-requires-in_default-fault : goal.unreachable-requires-in_default-fault
unreachable-requires-in_default-fault c =
    let given = c.requires in
    c.in-Err-verify.ensures.refused.not_accepted c.in_default-fault.not-OutOfMemory
    (subst (IsAccepted (is_passable c.args.grid.now) c.args.instance.now) (ok_program (c.in-Ok.ensures.only given.0 given.1)) given.2)

pub returns-in-Ok-verify-clause-only : goal.returns-in-Ok-verify-clause-only
returns-in-Ok-verify-clause-only c = λ p spells. ok_program (c.in-Ok.ensures.only p spells) ∙ sym (ap (λ (w : Viewed). w.program) c.in-Ok-verify.ensures.kept.0)
