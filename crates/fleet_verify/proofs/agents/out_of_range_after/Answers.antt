use Rattle.fleet_verify.specs.Faults.{AwaitsRight}
use Rattle.fleet_verify.proofs.Ranges.{up_to_more}
use Rattle.fleet_verify.proofs.agents.out_of_range_after.Goals as goal

pub returns-in-None : goal.returns-in-None
returns-in-None g c =
    let p = g.P.ProgramView.program c.args.program.now in
    let before = rw c.in-None.is at c.requires.before in
    up_to_more (AwaitsRight p c.args.agent) c.args.finished before (c.are_in_range.ensures.0 c.if-are_in_range.true)
