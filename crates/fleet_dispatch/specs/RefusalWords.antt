-- The line of a dispatch that stopped before its end, and that of times that are not told.
use Rattle.std.specs.Prelude.{ℕ, Bool, true, false, List, [], ◌∷◌, codes}
use Rattle.fleet_text.specs.Refusals.{memory_words, named, named_at, named_by}
use Rattle.fleet_dispatch.specs.declared.fault.DispatchFault.{DispatchFault}
use Rattle.fleet_dispatch.specs.declared.fault.DispatchFault.TheVariants as d
use Rattle.fleet_dispatch.specs.declared.times_fault.TimesFault.{TimesFault}
use Rattle.fleet_dispatch.specs.declared.times_fault.TimesFault.TheVariants as t

-- the words of the line of a dispatch that stopped
abbrev pub dispatch_words : DispatchFault → List (List ℕ)
dispatch_words d.OutOfMemory = memory_words
dispatch_words (d.Form line) = named_at (codes "dispatch") 2 (codes "Form") (codes "line") line
dispatch_words (d.NotOrdered line agent) = named_by (codes "dispatch") 3 (codes "NotOrdered") (codes "line") line (codes "agent") agent
dispatch_words (d.Ended line) = named_at (codes "dispatch") 4 (codes "Ended") (codes "line") line
dispatch_words d.Write = named (codes "dispatch") 5 (codes "Write")
dispatch_words d.ReportLimit = named (codes "dispatch") 6 (codes "ReportLimit")
dispatch_words (d.Log line) = named_at (codes "dispatch") 7 (codes "Log") (codes "line") line
dispatch_words (d.LogWrite line) = named_at (codes "dispatch") 8 (codes "LogWrite") (codes "line") line
dispatch_words d.OtherLog = named (codes "dispatch") 9 (codes "OtherLog")
dispatch_words d.Input = codes "file" ∷ codes "-" ∷ []

-- whether memory, the reports, the orders or the log failed
abbrev pub is_dispatch_failure : DispatchFault → Bool
is_dispatch_failure d.OutOfMemory = true
is_dispatch_failure d.Write = true
is_dispatch_failure (d.LogWrite line) = true
is_dispatch_failure d.Input = true
is_dispatch_failure _ = false

-- the words of the line of a refusal of times
abbrev pub times_words : TimesFault → List (List ℕ)
times_words t.OutOfMemory = memory_words
times_words t.Broken = named (codes "times") 2 (codes "Broken")
times_words (t.Cost line) = named_at (codes "times") 3 (codes "Cost") (codes "line") line
times_words t.Dead = named (codes "times") 4 (codes "Dead")

-- whether memory failed
abbrev pub is_times_failure : TimesFault → Bool
is_times_failure t.OutOfMemory = true
is_times_failure _ = false
