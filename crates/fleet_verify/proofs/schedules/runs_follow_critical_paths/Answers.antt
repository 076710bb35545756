use Rattle.fleet_verify.proofs.HeldUp.{finished_on_critical_path}
use Rattle.fleet_verify.proofs.schedules.runs_follow_critical_paths.Goals as goal

pub returns : goal.returns
returns c passable tasks p ok holds = finished_on_critical_path p holds ok.right.in_range ok.numbering.0 ok.numbering.1
