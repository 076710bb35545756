use Rattle.fleet_adg.proofs.Trains.{alone, all_in_row, level_in, longest_in, finish_in}
use Rattle.fleet_adg.proofs.apart.trains_delay_runs.Goals as goal

pub returns-clause-level : goal.returns-clause-level
returns-clause-level c = level_in

pub returns-clause-chain : goal.returns-clause-chain
returns-clause-chain c = longest_in

pub returns-clause-finish : goal.returns-clause-finish
returns-clause-finish c passable tasks plan deps most free within = finish_in plan deps most within passable tasks free

pub returns-clause-apart : goal.returns-clause-apart
returns-clause-apart c = alone

pub returns-clause-all : goal.returns-clause-all
returns-clause-all c passable tasks plan free x = all_in_row passable tasks plan free x
