use Rattle.fleet_adg.proofs.Latest.{entry-last, entry-own, entry-none, entry-all_only, entry-all_each}
use Rattle.fleet_adg.proofs.laws.awaits_are_as_defined.Goals as goal

pub returns-clause-last_by_other : goal.returns-clause-last_by_other
returns-clause-last_by_other c passable tasks plan i x s j free = entry-last passable tasks plan free i x s j

pub returns-clause-last_its_own : goal.returns-clause-last_its_own
returns-clause-last_its_own c passable tasks plan i x s free = entry-own passable tasks plan free i x s

pub returns-clause-last_none : goal.returns-clause-last_none
returns-clause-last_none c = entry-none

pub returns-clause-all : goal.returns-clause-all
returns-clause-all c plan i x w = (entry-all_only plan i x w, λ h. entry-all_each plan i x w h.0 h.1)
