use Rattle.std.proofs.Common.{◌≤◌, ◌-◌, vec_len}
use Rattle.std.specs.Io.KnownBytes.{Consumes}
use Rattle.fleet_cli.specs.declared.files.TheConstants.{MAX_BYTES}
use Rattle.fleet_cli.proofs.files.read_whole.Given as goal

abbrev pub invariant-chunks : goal.invariant-chunks
invariant-chunks g l = record {
  so_far : Consumes (g.R.Read.remaining l.initial.reader) (g.R.Read.remaining l.reader) l.bytes.items;
  within : vec_len l.bytes ≤ MAX_BYTES;
}

abbrev pub decreases-chunks : goal.decreases-chunks
decreases-chunks g l = MAX_BYTES - vec_len l.bytes
