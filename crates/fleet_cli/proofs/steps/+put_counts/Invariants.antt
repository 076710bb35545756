use Rattle.std.proofs.Common.{length}
use Rattle.fleet_cli.proofs.steps.+put_counts.Given as goal

abbrev pub decreases-put_counts : goal.decreases-put_counts
decreases-put_counts g l = length l.counts.now
