use Rattle.std.proofs.Common.{◌≢◌, ℕ, List, Err, refl}
use Rattle.fleet_model.specs.Program.{Program}
use Rattle.fleet_text.specs.Sink.{SinkState}
use Rattle.fleet_run.specs.{Trace.Traces, Trace.StopsTrace, declared.run.RunFault.RunFault, declared.run.RunFault.TheVariants.OutOfMemory}
use Rattle.fleet_cli.proofs.RunLemmas.{made}
use Rattle.fleet_cli.proofs.run_commands.auto_run.Goals as goal

-- but for want of memory, the trace was stopped
stops : (p : Program) (chain : ℕ) (held : List ℕ) (out out' : SinkState) (fault : RunFault) → fault ≢ OutOfMemory → Traces p chain held out out' (Err fault) → StopsTrace p chain held out out' fault
stops p chain held out out' OutOfMemory other h = absurd (other refl)
stops p chain held out out' _ other h = h

pub returns : goal.returns
returns g c =
    let m = made c.in-Ok-made_bytes.ensures.made (rw c.deref.ensures.value at c.in-Ok-accept_made.ensures.only) in
    let stopped = stops _ _ c.args.holds.now _ _ c.in-Err-run_accepted.fault c.in_default-fault.not-OutOfMemory c.in-Err-run_accepted.ensures in
    (_, _, record { ground = c.in-Ok.ensures.found; tasks_read = c.in-Ok-read_scen.ensures.found }, (_, _, _, m, c.in-Ok-accept_made.ensures.accepted.accepted_for, stopped))

pub returns-in-Ok-run_accepted : goal.returns-in-Ok-run_accepted
returns-in-Ok-run_accepted g c =
    let m = made c.in-Ok-made_bytes.ensures.made (rw c.deref.ensures.value at c.in-Ok-accept_made.ensures.only) in
    (_, _, record { ground = c.in-Ok.ensures.found; tasks_read = c.in-Ok-read_scen.ensures.found }, (_, _, _, m, c.in-Ok-accept_made.ensures.accepted.accepted_for, c.in-Ok-run_accepted.ensures))
