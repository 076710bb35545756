-- A rehearsal under holds that are read in place, into a sink over memory, said of the bytes of the holds and of the
-- text.
use Rattle.std.proofs.Common.{◌≡◌, ℕ, false, List, [], Result, Ok, Err, length, subst}
use Rattle.fleet_model.specs.Program.{Program}
use Rattle.fleet_text.specs.Text.{lines}
use Rattle.fleet_text.specs.Taken.{Taken, state_of}
use Rattle.fleet_code.specs.Spelling.{Spells}
use Rattle.fleet_run.specs.HoldText.{HoldLines, source_of}
use Rattle.fleet_run.specs.Source.{SourceState}
use Rattle.fleet_run.specs.Rehearsal.{Rehearses}
use Rattle.fleet_run.specs.Trace.{hold_source}
use Rattle.fleet_run.specs.declared.run.Rehearsal.{Rehearsal}
use Rattle.fleet_run.specs.declared.run.RunFault.{RunFault}
use Rattle.fleet_run.specs.declared.run.RunFault.TheVariants as r
use Rattle.fleet_c.specs.Rehearse.{empty_sink, stop_of, RehearsesBytes, IsRehearseStop}

module _ (bytes held : List ℕ) (p : Program) (n : ℕ) (s : HoldLines) (t t' : Taken) (source : SourceState) (spelled : Spells bytes p) (agents : n ≡ length p)
    (first : s ≡ record { lines = lines held; agents = n; has_failed = false }) (empty : t ≡ record { bytes = []; room = 0; has_failed = false; is_flushed = false }) where
  -- what the rehearsal did, for the ticks of the holds
  did : (ran : Result Rehearsal RunFault) → Rehearses p (source_of s) source (state_of t) (state_of t') ran → Rehearses p (hold_source p held) source empty_sink (state_of t') ran
  did ran h =
      let OfSink : Taken → Type 0 = λ x. Rehearses p (source_of s) source (state_of x) (state_of t') ran in
      let OfLines : HoldLines → Type 0 = λ x. Rehearses p (source_of x) source empty_sink (state_of t') ran in
      let OfAgents : ℕ → Type 0 = λ k. OfLines (record { lines = lines held; agents = k; has_failed = false }) in
      subst OfAgents agents (subst OfLines first (subst OfSink empty h))

  pub rehearsed : (ran : Rehearsal) → Rehearses p (source_of s) source (state_of t) (state_of t') (Ok ran) → RehearsesBytes bytes held t'.bytes ran.end
  rehearsed ran h =
      let d = did (Ok ran) h in
      record { program = p; spelled = spelled; ticks = ran.ticks; ends = d.ends; ends_so = d.end; written = d.taken; right_lines = d.asked.ended }

  pub stopped : (fault : RunFault) → Rehearses p (source_of s) source (state_of t) (state_of t') (Err fault) → IsRehearseStop bytes held (stop_of fault)
  stopped r.OutOfMemory h = (p, source, state_of t', spelled, (λ e. cc), did (Err r.OutOfMemory) h)
  stopped (r.Source tick) h = (p, source, state_of t', spelled, (λ e. cc), did (Err (r.Source tick)) h)
  stopped (r.Hold line) h = (p, source, state_of t', spelled, (λ e. cc), did (Err (r.Hold line)) h)
  stopped r.Write h = tt
  stopped r.HoldLimit h = (p, source, state_of t', spelled, (λ e. cc), did (Err r.HoldLimit) h)
