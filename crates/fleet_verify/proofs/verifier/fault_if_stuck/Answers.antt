use Rattle.fleet_verify.proofs.Stays.{ranges_all}
use Rattle.fleet_verify.proofs.verifier.fault_if_stuck.Goals as goal

pub find_ring-requires-clause-ranges : goal.find_ring-requires-clause-ranges
find_ring-requires-clause-ranges g c = ranges_all (g.P.ProgramView.program c.args.program.now) c.in_default.ensures.ok.ranges
