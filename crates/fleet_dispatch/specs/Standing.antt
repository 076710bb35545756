-- Where robots stand after the reports of a log.
use Rattle.std.specs.Prelude.{◌≡◌, List, ℕ, Err, ⊤}
use Rattle.fleet_model.specs.Program.{Program}
use Rattle.fleet_model.specs.Machine.{Configuration, IsReached}
use Rattle.fleet_dispatch.specs.declared.fault.DispatchFault.{DispatchFault}
use Rattle.fleet_dispatch.specs.declared.fault.DispatchFault.TheVariants.{OutOfMemory}
use Rattle.fleet_dispatch.specs.declared.form.ReportForm.TheVariants.{Numbered}
use Rattle.fleet_dispatch.specs.declared.standing.TheConstants.{MOST_AHEAD}
use Rattle.fleet_dispatch.specs.Dispatch.{Course, Left, configuration_at}
use Rattle.fleet_dispatch.specs.Replay.{IsReplayed, Replays}
use Rattle.fleet_dispatch.specs.Session.{first_course}

-- a dispatch from the start with numbered reports, and as many orders ahead as there may be
abbrev pub log_course : Program → Course
log_course p = first_course p (record { form = Numbered; ahead = MOST_AHEAD })

-- the reports of the log could be taken, and the agents stand where these lead them: as they do in some run
pub record StandsAfter (p : Program) (log : List ℕ) (c : Configuration) : Type 0 where
  pub past : Left
  pub replayed : IsReplayed (log_course p) log past
  pub standings : c ≡ configuration_at p past.done
  pub reached : IsReached p c

-- the log could not be taken, or there was no memory
abbrev pub IsLogRefusal : Program → List ℕ → DispatchFault → Type 0
IsLogRefusal p log OutOfMemory = ⊤
IsLogRefusal p log fault = (past : Left) × Replays {T = Unit {0}} (log_course p) log past (Err fault)
