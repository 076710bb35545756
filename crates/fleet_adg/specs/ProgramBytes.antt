-- The bytes of a program, with its numbers.
use Rattle.std.specs.Prelude.{◌≡◌, ℕ, ◌==◌, if◌then◌else◌, length}
use Rattle.fleet_model.specs.Program.{Program, total_moves, total_awaits}
use Rattle.fleet_code.specs.Spelling.{SpellsShortest}
use Rattle.fleet_code.specs.declared.format.Version.{Version}
use Rattle.fleet_code.specs.declared.format.Version.TheVariants.{One, Two}
use Rattle.fleet_adg.specs.declared.compiler.ProgramBytes.{ProgramBytes}

-- the bytes spell the program, in version 1 if that has bytes for it, and the numbers are those of the program
pub record AreBytesOf (p : Program) (c : ProgramBytes) : Type 0 where
  pub spelled : SpellsShortest c.bytes.items p
  pub agents : c.agents ≡ length p
  pub moves : c.moves ≡ total_moves p
  pub awaits : c.awaits ≡ total_awaits p

-- the version whose bytes are the shortest that a program has whose agents stay so often at the end
abbrev pub version_for : ℕ → Version
version_for stays = if stays == 0 then One else Two
