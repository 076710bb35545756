use Rattle.fleet_grid.specs.Ground.{is_passable}
use Rattle.fleet_verify.proofs.Beginning.{IsBeginning}
use Rattle.fleet_verify.proofs.ahead.begin.Given as goal

abbrev pub invariant-loop-agent : goal.invariant-loop-agent
invariant-loop-agent g l = IsBeginning (is_passable l.grid) (g.P.ProgramView.program l.program) l.agent l.ahead
