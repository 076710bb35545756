use Rattle.fleet_verify.proofs.Words.{arith, ap, ◌∙◌, Place, stepped, is_passable}
use Rattle.fleet_verify.proofs.Positions.{stays_on, leads_off, goes_on, place_in_reach}
use Rattle.fleet_verify.proofs.agents.position_after.Goals as goal

pub after-requires-in-OffGround : goal.after-requires-in-OffGround
after-requires-in-OffGround g c =
    place_in_reach (is_passable c.args.grid.now) (g.P.ProgramView.program c.args.program.now) c.requires.well_formed c.args.agent c.args.finished c.in-OffGround.place c.in-OffGround.action (omega (arith, c.requires.left))
    (rw c.in-OffGround.is at c.requires.before)

pub returns-in-Some : goal.returns-in-Some
returns-in-Some g c =
    stays_on (is_passable c.args.grid.now) (g.P.ProgramView.program c.args.program.now) c.args.agent c.args.finished c.step-step.result c.step-step.ensures c.in-OnGround.cell c.in-Some.next
    (rw c.in-OnGround.is at c.requires.before) c.in-Some.ensures.some.0 c.in-Some.ensures.some.1

pub returns-in-None : goal.returns-in-None
returns-in-None g c =
    leads_off (is_passable c.args.grid.now) (g.P.ProgramView.program c.args.program.now) c.args.agent c.args.finished c.step-step.result c.step-step.ensures c.in-OnGround.cell c.after.result
    (rw c.in-OnGround.is at c.requires.before) c.in-None.ensures.none (c.after.ensures ∙ ap (λ (q : Place). stepped q c.step-step.result) c.from.ensures)

pub returns-in-OffGround : goal.returns-in-OffGround
returns-in-OffGround g c =
    goes_on (is_passable c.args.grid.now) (g.P.ProgramView.program c.args.program.now) c.args.agent c.args.finished c.step-step.result c.step-step.ensures c.in-OffGround.place c.after-in-OffGround.result c.in-OffGround.action
    (rw c.in-OffGround.is at c.requires.before) c.after-in-OffGround.ensures
