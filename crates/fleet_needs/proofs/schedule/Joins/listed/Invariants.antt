use Rattle.fleet_needs.proofs.Words.{AreListedTo, named_in}
use Rattle.fleet_needs.proofs.schedule.Joins.listed.Given as goal

abbrev pub invariant-loop-n : goal.invariant-loop-n
invariant-loop-n g l = AreListedTo (g.P.ProgramView.program l.program) (named_in l.fn.keys) l.standing l.n l.joins
