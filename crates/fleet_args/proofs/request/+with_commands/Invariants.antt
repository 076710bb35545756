use Rattle.std.proofs.Common.{length}
use Rattle.fleet_args.proofs.request.+with_commands.Given as goal

abbrev pub decreases-with_commands : goal.decreases-with_commands
decreases-with_commands l = length l.texts.now
