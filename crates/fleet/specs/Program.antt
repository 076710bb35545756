-- What the program does for the arguments with which it was started.
use Rattle.std.specs.Prelude.{◌≡◌, ◌≢◌, ℕ, List, [], ◌∷◌, ◌++◌, ◌⊎◌, Option, Result, Ok, Err, codes, map, drop, string_bytes}
use Rattle.std.specs.{Vec.Iter.into_iter_items, IoError.error_kind}
use Rattle.std.specs.declared.{alloc.Global.Global, io.Error.Error, io.ErrorKind.ErrorKind, io.ErrorKind.TheVariants.OutOfMemory, string.String.String, vec.Vec.Vec, vec.IntoIter.IntoIter}
use Rattle.fleet_text.specs.Sink.{Receives}
use Rattle.fleet_cli.specs.Files.{AreUnchanged}
use Rattle.fleet_text.specs.Sink.{SinkState, IsUnwritten}
use Rattle.fleet_cli.specs.Faults.{refusal_line}
use Rattle.fleet_cli.specs.Command.{Around, RunsCommand}
use Rattle.fleet_cli.specs.declared.fault.Fault.TheVariants as f

-- the line that is reported if a word is no text
abbrev pub no_text_line : List ℕ
no_text_line = codes "error: a word of the command line is no text" ++ 10 ∷ []

-- the words are all arguments after the first; or the arguments cannot be had, or there is no memory for the words
abbrev pub AreWordsOf : Result (IntoIter (String Global) Global) Error → Result (Vec (String Global) Global) Error → Type 0
AreWordsOf (Ok args) (Ok words) = words.items ≡ drop 1 (into_iter_items args)
AreWordsOf (Ok args) (Err error) = error_kind error ≡ OutOfMemory
AreWordsOf (Err error) (Ok words) = ⊥
AreWordsOf (Err error) (Err told) = told ≡ error

-- it was reported why the words cannot be had: memory ran out, or else a word is no text, which is wrong usage
pub record ReportsNoWords (kind : ErrorKind) (err err' : SinkState) (status : ℕ) : Type 0 where
  pub memory : kind ≡ OutOfMemory → (status ≡ 3) × Receives err err' (refusal_line f.Memory)
  pub usage : kind ≢ OutOfMemory → (status ≡ 2) × Receives err err' no_text_line

-- the command that the words after the first ask for was done; or there was no memory for the words, or they cannot be
-- had, and then that alone was reported
abbrev pub RunsProgram : Result (IntoIter (String Global) Global) Error → Option (List ℕ) → Around → (out out' err err' : SinkState) → ℕ → Type 0
RunsProgram (Ok args) input w out out' err err' status =
    RunsCommand (map string_bytes (drop 1 (into_iter_items args))) input w out out' err err' status
    ⊎ (ReportsNoWords OutOfMemory err err' status × IsUnwritten out out' × AreUnchanged w.files w.after × w.unread)
RunsProgram (Err error) input w out out' err err' status = ReportsNoWords (error_kind error) err err' status × IsUnwritten out out' × AreUnchanged w.files w.after × w.unread
