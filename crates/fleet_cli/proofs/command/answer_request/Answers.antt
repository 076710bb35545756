use Rattle.std.proofs.Common.{inl, sym}
use Rattle.fleet_cli.proofs.command.answer_request.Goals as goal

pub returns-in-Some : goal.returns-in-Some
returns-in-Some g c = rw (sym c.names_of.ensures, c.in-Some.is) (inl (c.in_ok-problem.problem, c.in_ok-problem.ensures, c.answer_problem.ensures))
