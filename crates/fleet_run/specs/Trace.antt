-- What is written of the run of an accepted program under a text of holds.
use Rattle.std.specs.Prelude.{◌≡◌, ◌≢◌, ℕ, ◌<◌, List, length, Option, None, Result, Ok, Err}
use Rattle.fleet_model.specs.Program.{Program}
use Rattle.fleet_model.specs.Machine.{Configuration, Holds, IsFinish, held_ticks}
use Rattle.fleet_text.specs.Text.{lines}
use Rattle.fleet_text.specs.Sink.{SinkState, Takes, IsUnwritten}
use Rattle.fleet_run.specs.Source.{SourceState}
use Rattle.fleet_run.specs.HoldText.{ticks_of, last_of}
use Rattle.fleet_run.specs.Text.{trace_text}
use Rattle.fleet_run.specs.Drive.{Drives, IsInTime}
use Rattle.fleet_run.specs.declared.source.SourceFault.{SourceFault}
use Rattle.fleet_run.specs.declared.run.RunFault.{RunFault}
use Rattle.fleet_run.specs.declared.run.RunFault.TheVariants.{OutOfMemory, Source}
use Rattle.fleet_run.specs.declared.run.Report.{Report}

-- the ticks of the holds, and what comes after them, for the agents of the program
abbrev pub hold_ticks : Program → List ℕ → Holds
hold_ticks p held = ticks_of (length p) (lines held)

-- .. these
abbrev pub hold_last : Program → List ℕ → Option SourceFault
hold_last p held = last_of (length p) (lines held)

-- the source that reads the bytes of holds for the agents of the program
abbrev pub hold_source : Program → List ℕ → SourceState
hold_source p held = record { ticks = hold_ticks p held; last = hold_last p held; fault = None }

-- The trace of the program was written whole, under the holds for which the bytes stand, and the report has its
-- numbers. Its ticks are at least the longest chain, and at most that and the ticks in which a ready agent was held; of
-- the holds no line was asked for that is no tick's
pub record WritesTrace (p : Program) (chain : ℕ) (held : List ℕ) (out out' : SinkState) (r : Report) : Type 0 where
  pub finish : IsFinish p (hold_ticks p held) r.ticks
  pub written : Takes out out' (trace_text p (hold_ticks p held) r.ticks chain)
  pub right_lines : length (hold_ticks p held) < r.ticks → hold_last p held ≡ None
  pub agents : r.agents ≡ length p
  pub the_chain : r.chain ≡ chain
  pub held_ready : r.held ≡ held_ticks p (hold_ticks p held) r.ticks
  pub in_time : IsInTime r

-- a line of the holds that was asked for is no tick's, or the sink failed while the trace was written, or the holds
-- have more ticks than a run takes. A text never breaks off
pub record StopsTrace (p : Program) (chain : ℕ) (held : List ℕ) (out out' : SinkState) (fault : RunFault) : Type 0 where
  pub never_broken : (tick : ℕ) → fault ≢ Source tick
  pub source : SourceState
  pub configuration : Configuration
  pub stops : Drives p chain (hold_source p held) source out out' configuration (Err fault)

-- the trace was written, or memory ran out before it, or it stopped
abbrev pub Traces : Program → ℕ → List ℕ → (out out' : SinkState) → Result Report RunFault → Type 0
Traces p chain held out out' (Ok r) = WritesTrace p chain held out out' r
Traces p chain held out out' (Err OutOfMemory) = IsUnwritten out out'
Traces p chain held out out' (Err fault) = StopsTrace p chain held out out' fault
