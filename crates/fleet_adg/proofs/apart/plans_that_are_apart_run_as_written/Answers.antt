use Rattle.fleet_adg.proofs.AsWritten.{each_is, needs_earlier, changing_is, level_within, longest_within, in_time, finish_within, made_by, as_written, on_goal, ends_within, follows_needs}
use Rattle.fleet_adg.proofs.apart.plans_that_are_apart_run_as_written.Goals as goal

pub returns-clause-each : goal.returns-clause-each
returns-clause-each c = each_is

pub returns-clause-earlier : goal.returns-clause-earlier
returns-clause-earlier c plan deps apart i j x y hi hj ci cj = needs_earlier plan deps apart _ _ x y (changing_is plan deps i x hi ci) (changing_is plan deps j y hj cj)

pub returns-clause-level : goal.returns-clause-level
returns-clause-level c = level_within

pub returns-clause-chain : goal.returns-clause-chain
returns-clause-chain c = longest_within

pub returns-clause-in_time : goal.returns-clause-in_time
returns-clause-in_time c passable tasks plan deps free apart = in_time plan deps apart passable tasks free

pub returns-clause-finish : goal.returns-clause-finish
returns-clause-finish c passable tasks plan deps free apart = finish_within plan deps apart passable tasks free

pub returns-clause-made : goal.returns-clause-made
returns-clause-made c passable tasks plan deps free apart = made_by plan deps apart passable tasks free

pub returns-clause-as_written : goal.returns-clause-as_written
returns-clause-as_written c passable tasks plan deps free apart = as_written plan deps apart passable tasks free

pub returns-clause-following : goal.returns-clause-following
returns-clause-following c = follows_needs

pub returns-clause-ended : goal.returns-clause-ended
returns-clause-ended c passable tasks plan deps free apart = ends_within plan deps apart passable tasks free

pub returns-clause-on_goal : goal.returns-clause-on_goal
returns-clause-on_goal c passable tasks plan deps free apart = on_goal plan deps apart passable tasks free
