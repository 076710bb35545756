use Rattle.std.proofs.Common.{ℕ, List, Option, Result, Ok, Err, map, inl}
use Rattle.std.specs.Prelude.{string_bytes}
use Rattle.std.specs.declared.{alloc.Global.Global, io.Error.Error, string.String.String, vec.Vec.Vec, vec.IntoIter.IntoIter}
use Rattle.fleet_text.specs.Sink.{SinkState}
use Rattle.fleet_cli.specs.Command.{Around, RunsCommand}
use Rattle.fleet.specs.Program.{AreWordsOf, RunsProgram}
use Rattle.fleet.proofs.run_program.Goals as goal

-- what is done for all words after the first
runs : (args : Result (IntoIter (String Global) Global) Error) (words : Vec (String Global) Global) (input : Option (List ℕ)) (w : Around) (out out' err err' : SinkState) (status : ℕ)
    → AreWordsOf args (Ok words) → RunsCommand (map string_bytes words.items) input w out out' err err' status → RunsProgram args input w out out' err err' status
runs (Ok args) words input w out out' err err' status same h = inl (rw same at h)
runs (Err error) words input w out out' err err' status same h = absurd same

pub returns-in-Ok : goal.returns-in-Ok
returns-in-Ok g c = rw c.from.ensures (runs c.args.args c.in-Ok.words _ _ _ _ _ _ _ c.in-Ok.ensures (rw c.as_slice.ensures.value at c.run_command.ensures))
