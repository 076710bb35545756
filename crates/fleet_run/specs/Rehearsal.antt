-- What a rehearsal writes, asks and answers.
use Rattle.std.specs.Prelude.{◌≡◌, ℕ, ◌+◌, ◌++◌, List, [], length, Some, Result, Ok, Err, if◌then◌else◌}
use Rattle.std.specs.Io.KnownBytes.{Appends}
use Rattle.fleet_model.specs.Program.{Program}
use Rattle.fleet_model.specs.Machine.{Holds, run, held_ticks, is_over, IsEnd}
use Rattle.fleet_run.specs.declared.source.SourceFault.TheVariants.{Broken, Text}
use Rattle.fleet_run.specs.declared.run.RunFault.{RunFault}
use Rattle.fleet_run.specs.declared.run.RunFault.TheVariants.{OutOfMemory, Source, Hold, Write, HoldLimit}
use Rattle.fleet_run.specs.declared.run.Rehearsal.{Rehearsal}
use Rattle.fleet_run.specs.Text.{line_of, rehearsal_closing, rehearsal_text}
use Rattle.fleet_text.specs.Sink.{SinkState, IsUnwritten, IsWorking}
use Rattle.fleet_run.specs.Source.{SourceState}
use Rattle.fleet_run.specs.Outcome.{IsAskedFor, run_end, StopsAtSource, StopsAtSink, StopsAtTickLimit}

-- the whole rehearsal text was written, and the answer has its numbers and its last word
pub record IsRehearsed (p : Program) (source source' : SourceState) (out out' : SinkState) (r : Rehearsal) : Type 0 where
  pub ends : IsEnd p source.ticks r.ticks
  pub taken : Appends out.taken out'.taken (rehearsal_text p source.ticks r.ticks)
  pub working : IsWorking out'
  pub asked : IsAskedFor r.ticks source source'
  pub agents : r.agents ≡ length p
  pub held : r.held ≡ held_ticks p source.ticks r.ticks
  pub end : run_end p (run p source.ticks r.ticks) ≡ Some r.end

-- no tick was asked for, and nothing was written
pub record IsUntouched (source source' : SourceState) (out out' : SinkState) : Type 0 where
  pub asked : IsAskedFor 0 source source'
  pub unwritten : IsUnwritten out out'

-- the text from the line of time t on: that line, and the closing lines if the run is over
abbrev pub text_from : Program → Holds → ℕ → List ℕ
text_from p holds t = line_of t (run p holds t) ++ (if is_over p (run p holds t) then rehearsal_closing p holds t else [])

-- what a rehearsal asked for, wrote and answered
abbrev pub Rehearses : Program → (source source' : SourceState) (out out' : SinkState) → Result Rehearsal RunFault → Type 0
Rehearses p s s' o o' (Ok r) = IsRehearsed p s s' o o' r
Rehearses p s s' o o' (Err OutOfMemory) = IsUntouched s s' o o'
Rehearses p s s' o o' (Err (Source n)) = (t : ℕ) × (n ≡ t + 1) × StopsAtSource is_over p s s' o o' Broken t
Rehearses p s s' o o' (Err (Hold n)) = (t : ℕ) × (n ≡ t + 1) × StopsAtSource is_over p s s' o o' Text t
Rehearses p s s' o o' (Err Write) = (t : ℕ) × StopsAtSink is_over p s s' o o' (text_from p s.ticks t) t
Rehearses p s s' o o' (Err HoldLimit) = (t : ℕ) × StopsAtTickLimit is_over p s s' o o' t
