-- How runs end, and where they stop.
use Rattle.std.specs.Prelude.{◌≡◌, ◌≢◌, ℕ, ◌+◌, ◌<◌, ◌≤◌, ◌++◌, Bool, true, false, List, [], length, take, drop, Option, None, Some, Result, Ok, Err, if◌then◌else◌}
use Rattle.std.specs.Io.KnownBytes.{Appends}
use Rattle.fleet_model.specs.Program.{Program}
use Rattle.fleet_model.specs.declared.geometry.Place.{Place}
use Rattle.fleet_model.specs.Machine.{Configuration, Holds, opening, tick, run, held_ticks, is_ready_held, is_finished, is_stuck, is_over}
use Rattle.fleet_machine.specs.Machine.{MachineState, Runs}
use Rattle.fleet_run.specs.declared.source.SourceFault.{SourceFault}
use Rattle.fleet_run.specs.declared.source.SourceFault.TheVariants.{Broken, Text}
use Rattle.fleet_run.specs.declared.line.TheConstants.{NUMERALS, LINE}
use Rattle.fleet_run.specs.declared.run.TheConstants.{MAX_RUN_TICKS}
use Rattle.fleet_run.specs.declared.run.End.{End}
use Rattle.fleet_run.specs.declared.run.End.TheVariants.{Finished, Stuck}
use Rattle.fleet_run.specs.declared.run.Ran.{Ran}
use Rattle.fleet_run.specs.declared.run.Time.{Time}
use Rattle.fleet_run.specs.declared.run.RunFault.{RunFault}
use Rattle.fleet_run.specs.declared.run.RunFault.TheVariants.{OutOfMemory, Source, Hold, Write, HoldLimit}
use Rattle.fleet_run.specs.Text.{line_of, lines_below}
use Rattle.fleet_text.specs.Sink.{SinkState, IsWorking, HasFailed, Takes, StopsWithin}
use Rattle.fleet_run.specs.Source.{SourceState, HasNotFailed, AsksTick}

-- a run can begin: the machine is at its start, and neither the source nor the sink has failed
pub record CanRun (p : Program) (m : MachineState) (source : SourceState) (out : SinkState) : Type 0 where
  pub runs : Runs p m
  pub starts : m.configuration ≡ opening p
  pub source_works : HasNotFailed source
  pub sink_works : IsWorking out

-- the rows of a run: room for a line, for where each of its numbers begins, and for a flag and a place of each agent
pub record AreRowsFor (p : Program) (row begins : List ℕ) (flags : List Bool) (places : List Place) : Type 0 where
  pub a_line : length row ≡ LINE
  pub a_begin_each : length begins ≡ NUMERALS + 1
  pub a_flag_each : length flags ≡ length p
  pub a_place_each : length places ≡ length p

-- one tick in which these agents are held, and whether a ready one was
pub record HasTicked (p : Program) (holds : ℕ → Bool) (old new : MachineState) (was_held : Bool) : Type 0 where
  pub runs : Runs p new
  pub looked : old.looked ≤ new.looked
  pub after : new.configuration ≡ tick p holds old.configuration
  pub held : was_held ≡ is_ready_held p holds old.configuration

-- how the run has ended at this configuration, if it has
abbrev pub run_end : Program → Configuration → Option End
run_end p c = if is_finished p c then Some Finished else (if is_stuck p c then Some Stuck else None)

-- what is answered if the source fails so when it is asked for this tick
abbrev pub fault_of : SourceFault → ℕ → RunFault
fault_of Broken tick = Source tick
fault_of Text tick = Hold tick

-- A run asks its source for the tick after t ticks: whether there was one; or it stops there, since the source has
-- failed, or gave more ticks than a run takes
abbrev pub AsksNext : (ended : Bool) (source source' : SourceState) (t : ℕ) → Result Bool RunFault → List Bool → Type 0
AsksNext ended s s' t (Ok more) flags = AsksTick ended s s' (Ok more) flags × (more ≡ true → t ≢ MAX_RUN_TICKS)
AsksNext ended s s' t (Err OutOfMemory) flags = ⊥
AsksNext ended s s' t (Err (Source n)) flags = (n ≡ t + 1) × AsksTick ended s s' (Err Broken) flags
AsksNext ended s s' t (Err (Hold n)) flags = (n ≡ t + 1) × AsksTick ended s s' (Err Text) flags
AsksNext ended s s' t (Err Write) flags = ⊥
AsksNext ended s s' t (Err HoldLimit) flags = (t ≡ MAX_RUN_TICKS) × AsksTick ended s s' (Ok true) flags

-- unless the run has ended so, the source was asked for the next tick; else it is as it was
abbrev pub AsksUnless : Option End → (ended : Bool) (source source' : SourceState) (t : ℕ) → Result Bool RunFault → List Bool → Type 0
AsksUnless None ended s s' t r flags = AsksNext ended s s' t r flags
AsksUnless (Some _) ended s s' t r flags = (r ≡ Ok false) × (s' ≡ s)

-- the same of a time of a run
abbrev pub AsksUnlessOver : Time → (source source' : SourceState) → Result Bool RunFault → List Bool → Type 0
AsksUnlessOver time s s' r flags = AsksUnless time.end time.source_ended s s' time.ticks r flags

-- A time of a run: the sink took its line, and then the source was asked for the next tick, unless the run had ended;
-- or the sink failed within the line, and the source is as it was
abbrev pub PassesTime : Time → (source source' : SourceState) (out out' : SinkState) (line : List ℕ) → Result Bool RunFault → List Bool → Type 0
PassesTime time s s' o o' line (Ok more) flags = Takes o o' line × AsksUnlessOver time s s' (Ok more) flags
PassesTime time s s' o o' line (Err OutOfMemory) flags = ⊥
PassesTime time s s' o o' line (Err (Source n)) flags = Takes o o' line × AsksUnlessOver time s s' (Err (Source n)) flags
PassesTime time s s' o o' line (Err (Hold n)) flags = Takes o o' line × AsksUnlessOver time s s' (Err (Hold n)) flags
PassesTime time s s' o o' line (Err Write) flags = StopsWithin o o' line × (s' ≡ s)
PassesTime time s s' o o' line (Err HoldLimit) flags = Takes o o' line × AsksUnlessOver time s s' (Err HoldLimit) flags

-- a test for the end of a run
abbrev pub EndTest : Type 0
EndTest = Program → Configuration → Bool

-- the run is not over before any of its first t ticks
abbrev pub NeedsTicks : EndTest → Program → Holds → ℕ → Type 0
NeedsTicks over p holds t = (s : ℕ) → s < t → over p (run p holds s) ≡ false

-- The source was asked for the first t ticks, and has not failed: it has lost those of its list, and what comes after
-- the list is as before; if the list is shorter, nothing came after it
pub record IsAskedFor (t : ℕ) (source source' : SourceState) : Type 0 where
  pub left : source'.ticks ≡ drop t source.ticks
  pub kept : t ≤ length source.ticks → source'.last ≡ source.last
  pub ended : length source.ticks < t → source.last ≡ None
  pub fault : HasNotFailed source'

-- the run came to its end: the source was asked for each of its ticks, and the sink has all lines
pub record RunsToEnd (p : Program) (source source' : SourceState) (out out' : SinkState) (r : Ran) : Type 0 where
  pub needed : NeedsTicks is_over p source.ticks r.ticks
  pub end : run_end p (run p source.ticks r.ticks) ≡ Some r.end
  pub held : r.held ≡ held_ticks p source.ticks r.ticks
  pub asked : IsAskedFor r.ticks source source'
  pub taken : Appends out.taken out'.taken (lines_below p source.ticks (r.ticks + 1))
  pub working : IsWorking out'

-- after t ticks, all that it had, the source was asked for one more, and failed as was to come after them
pub record StopsAtSource (over : EndTest) (p : Program) (source source' : SourceState) (out out' : SinkState) (kind : SourceFault) (t : ℕ) : Type 0 where
  pub needed : NeedsTicks over p source.ticks (t + 1)
  pub all : t ≡ length source.ticks
  pub left : source'.ticks ≡ []
  pub last : source.last ≡ Some kind
  pub kept : source'.last ≡ source.last
  pub fault : source'.fault ≡ Some kind
  pub taken : Appends out.taken out'.taken (lines_below p source.ticks (t + 1))
  pub working : IsWorking out'

-- the sink failed within this text, which comes after the lines of the times below t
pub record StopsAtSink (over : EndTest) (p : Program) (source source' : SourceState) (out out' : SinkState) (text : List ℕ) (t : ℕ) : Type 0 where
  pub needed : NeedsTicks over p source.ticks t
  pub asked : IsAskedFor t source source'
  pub taken : (k : ℕ) × (k < length text) × Appends out.taken out'.taken (lines_below p source.ticks t ++ take k text)
  pub failed : HasFailed out'

-- the source gave one more tick than a run takes
pub record StopsAtTickLimit (over : EndTest) (p : Program) (source source' : SourceState) (out out' : SinkState) (t : ℕ) : Type 0 where
  pub limit : t ≡ MAX_RUN_TICKS
  pub needed : NeedsTicks over p source.ticks (t + 1)
  pub more : t < length source.ticks
  pub asked : IsAskedFor (t + 1) source source'
  pub taken : Appends out.taken out'.taken (lines_below p source.ticks (t + 1))
  pub working : IsWorking out'

-- a run that writes its lines, and the configuration in which it is left
abbrev pub RunsLines : Program → (source source' : SourceState) (out out' : SinkState) → Configuration → Result Ran RunFault → Type 0
RunsLines p s s' o o' c (Ok r) = (c ≡ run p s.ticks r.ticks) × RunsToEnd p s s' o o' r
RunsLines p s s' o o' c (Err OutOfMemory) = ⊥
RunsLines p s s' o o' c (Err (Source n)) = (t : ℕ) × (n ≡ t + 1) × (c ≡ run p s.ticks t) × StopsAtSource is_over p s s' o o' Broken t
RunsLines p s s' o o' c (Err (Hold n)) = (t : ℕ) × (n ≡ t + 1) × (c ≡ run p s.ticks t) × StopsAtSource is_over p s s' o o' Text t
RunsLines p s s' o o' c (Err Write) = (t : ℕ) × (c ≡ run p s.ticks t) × StopsAtSink is_over p s s' o o' (line_of t (run p s.ticks t)) t
RunsLines p s s' o o' c (Err HoldLimit) = (t : ℕ) × (c ≡ run p s.ticks t) × StopsAtTickLimit is_over p s s' o o' t
