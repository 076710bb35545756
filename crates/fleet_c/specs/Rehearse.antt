-- A rehearsal of a program of bytes.
use Rattle.std.specs.Prelude.{◌≡◌, ◌≢◌, ℕ, ◌<◌, List, [], length, false, Some, None, Err}
use Rattle.fleet_model.specs.Program.{Program}
use Rattle.fleet_model.specs.Machine.{run, IsEnd}
use Rattle.fleet_code.specs.Spelling.{Spells}
use Rattle.fleet_code.specs.LoadFaults.{IsFirstLoadFault}
use Rattle.fleet_code.specs.declared.fault.LoadFault.TheVariants as l
use Rattle.fleet_text.specs.Sink.{SinkState}
use Rattle.fleet_run.specs.Outcome.{run_end}
use Rattle.fleet_run.specs.Rehearsal.{Rehearses}
use Rattle.fleet_run.specs.Source.{SourceState}
use Rattle.fleet_run.specs.Text.{rehearsal_text}
use Rattle.fleet_run.specs.Trace.{hold_ticks, hold_last, hold_source}
use Rattle.fleet_run.specs.declared.run.End.{End}
use Rattle.fleet_run.specs.declared.run.End.TheVariants.{Finished, Stuck}
use Rattle.fleet_run.specs.declared.run.RunFault.{RunFault}
use Rattle.fleet_run.specs.declared.run.RunFault.TheVariants as r
use Rattle.fleet_c.specs.declared.answer.TheConstants.{DONE, STUCK}
use Rattle.fleet_c.specs.declared.fault.CallFault.{CallFault}
use Rattle.fleet_c.specs.declared.fault.CallFault.TheVariants as f

-- the status of a rehearsal that ended so
abbrev pub end_status : End → ℕ
end_status Finished = DONE
end_status Stuck = STUCK

-- the text is that of the rehearsal of the program that the bytes spell, under the holds for which the others stand,
-- and it ended so; of the holds no line was asked for that is no tick's
pub record RehearsesBytes (bytes held text : List ℕ) (end : End) : Type 0 where
  pub program : Program
  pub spelled : Spells bytes program
  pub ticks : ℕ
  pub ends : IsEnd program (hold_ticks program held) ticks
  pub ends_so : run_end program (run program (hold_ticks program held) ticks) ≡ Some end
  pub written : text ≡ rehearsal_text program (hold_ticks program held) ticks
  pub right_lines : length (hold_ticks program held) < ticks → hold_last program held ≡ None

-- the refusal of a rehearsal that stopped so: a write to memory that failed is want of it
abbrev pub stop_of : RunFault → CallFault
stop_of r.Write = f.OutOfMemory
stop_of fault = f.Run fault

-- a sink that has taken nothing
abbrev pub empty_sink : SinkState
empty_sink = record { taken = Some []; has_failed = false; is_flushed = false }

-- the first fault of the program's bytes; or a line of the holds that was asked for is no tick's, or the holds have
-- more ticks than a run takes; or memory ran out. What was written until then is let go
abbrev pub IsRehearseStop : List ℕ → List ℕ → CallFault → Type 0
IsRehearseStop bytes held f.OutOfMemory = Unit {0}
IsRehearseStop bytes held (f.Load fault) = fault ≢ l.OutOfMemory → IsFirstLoadFault bytes fault
IsRehearseStop bytes held (f.Run fault) =
    (p : Program) × (source : SourceState) × (out : SinkState) × Spells bytes p × (fault ≢ r.Write)
    × Rehearses p (hold_source p held) source empty_sink out (Err fault)
IsRehearseStop bytes held _ = ⊥

-- the text of such a rehearsal (RehearsesBytes), with the status that says how it ended
abbrev pub RehearsesTo : (bytes held : List ℕ) → (text : List ℕ) → ℕ → Type 0
RehearsesTo bytes held text done = (end : End) × RehearsesBytes bytes held text end × (done ≡ end_status end)
