use Rattle.fleet_verify.proofs.CriticalPaths.{never_stuck}
use Rattle.fleet_verify.proofs.schedules.schedules_are_never_stuck.Goals as goal

pub returns : goal.returns
returns c passable tasks p ok s x = never_stuck p s x ok.right.in_range ok.numbering.0 ok.numbering.1
