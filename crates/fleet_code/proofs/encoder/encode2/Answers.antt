use Rattle.fleet_code.proofs.Written.{can_spell_second}
use Rattle.fleet_code.proofs.encoder.encode2.Goals as goal

pub write-requires : goal.write-requires
write-requires c = can_spell_second c.args.program.now c.as_slice.ensures.well_formed
