-- What driving a fleet writes, asks and answers.
use Rattle.std.specs.Prelude.{◌≡◌, ℕ, ◌+◌, ◌≤◌, ◌++◌, List, [], length, Result, Ok, Err, IfOk, IsOk, if◌then◌else◌}
use Rattle.std.specs.Io.KnownBytes.{Appends}
use Rattle.fleet_model.specs.Program.{Program}
use Rattle.fleet_model.specs.Machine.{Configuration, Holds, run, held_ticks, is_finished, IsFinish}
use Rattle.fleet_model.specs.Chain.{IsLongestChain}
use Rattle.fleet_model.specs.Run.{AreOnGoals}
use Rattle.fleet_run.specs.declared.run.TheConstants.{MAX_RUN_TICKS}
use Rattle.fleet_run.specs.declared.source.SourceFault.TheVariants.{Broken, Text}
use Rattle.fleet_run.specs.declared.run.RunFault.{RunFault}
use Rattle.fleet_run.specs.declared.run.RunFault.TheVariants.{OutOfMemory, Source, Hold, Write, HoldLimit}
use Rattle.fleet_run.specs.declared.run.Report.{Report}
use Rattle.fleet_run.specs.Text.{line_of, trace_closing, trace_text}
use Rattle.fleet_text.specs.Sink.{SinkState, IsWorking}
use Rattle.fleet_run.specs.Source.{SourceState, HasNotFailed}
use Rattle.fleet_run.specs.Fleet.{FleetState}
use Rattle.fleet_run.specs.Outcome.{IsAskedFor, StopsAtSource, StopsAtSink, StopsAtTickLimit}

-- the whole trace text was written, and the report has its numbers
pub record IsDriven (p : Program) (chain : ℕ) (source source' : SourceState) (out out' : SinkState) (r : Report) : Type 0 where
  pub finish : IsFinish p source.ticks r.ticks
  pub taken : Appends out.taken out'.taken (trace_text p source.ticks r.ticks chain)
  pub working : IsWorking out'
  pub asked : IsAskedFor r.ticks source source'
  pub agents : r.agents ≡ length p
  pub the_chain : r.chain ≡ chain
  pub held : r.held ≡ held_ticks p source.ticks r.ticks

-- the text from the line of time t on: that line, and the closing lines if all is finished
abbrev pub trace_from : Program → ℕ → Holds → ℕ → List ℕ
trace_from p chain holds t =
    line_of t (run p holds t) ++ (if is_finished p (run p holds t) then trace_closing (length p) t chain (held_ticks p holds t) else [])

-- what a run of a fleet asked for, wrote and answered, and the configuration in which it left the fleet
abbrev pub Drives : Program → ℕ → (source source' : SourceState) (out out' : SinkState) → Configuration → Result Report RunFault → Type 0
Drives p chain s s' o o' c (Ok r) = (c ≡ run p s.ticks r.ticks) × IsDriven p chain s s' o o' r
Drives p chain s s' o o' c (Err OutOfMemory) = ⊥
Drives p chain s s' o o' c (Err (Source n)) = (t : ℕ) × (n ≡ t + 1) × (c ≡ run p s.ticks t) × StopsAtSource is_finished p s s' o o' Broken t
Drives p chain s s' o o' c (Err (Hold n)) = (t : ℕ) × (n ≡ t + 1) × (c ≡ run p s.ticks t) × StopsAtSource is_finished p s s' o o' Text t
Drives p chain s s' o o' c (Err Write) = (t : ℕ) × (c ≡ run p s.ticks t) × StopsAtSink is_finished p s s' o o' (trace_from p chain s.ticks t) t
Drives p chain s s' o o' c (Err HoldLimit) = (t : ℕ) × (c ≡ run p s.ticks t) × StopsAtTickLimit is_finished p s s' o o' t

-- the report's ticks are at least the longest chain, and at most that and the ticks in which a ready agent was held
pub record IsInTime (r : Report) : Type 0 where
  pub no_sooner : r.chain ≤ r.ticks
  pub in_time : r.ticks ≤ r.chain + r.held

-- a drive of a fleet that runs the program p: it ends in a report unless the source or the sink has failed, or the
-- source had more ticks than a run takes
pub record DrivesFleet {P : Type 0} (p : Program) (old new : FleetState P) (source source' : SourceState) (out out' : SinkState) (r : Result Report RunFault) : Type 0 where
  pub accepted : new.accepted ≡ old.accepted
  pub looked : old.looked ≤ new.looked
  pub outcome : Drives p old.accepted.chain source source' out out' new.configuration r
  pub longest : IfOk r (λ report. IsLongestChain p report.chain)
  pub in_time : IfOk r IsInTime
  pub arrived : IfOk r (λ _. AreOnGoals p new.configuration)
  pub reports : HasNotFailed source' → IsWorking out' → length source.ticks ≤ MAX_RUN_TICKS → IsOk r
