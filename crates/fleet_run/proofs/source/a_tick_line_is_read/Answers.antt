use Rattle.fleet_run.proofs.HoldLaws.{tick_is, tick_read}
use Rattle.fleet_run.proofs.source.a_tick_line_is_read.Goals as goal

pub returns : goal.returns
returns c = λ n line held small. (tick_is n line held small, tick_read n line held small)
