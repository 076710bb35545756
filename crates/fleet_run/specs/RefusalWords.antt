-- The line of a run that stopped before its end.
use Rattle.std.specs.Prelude.{ℕ, Bool, true, false, List, codes}
use Rattle.fleet_text.specs.Refusals.{memory_words, named, named_at}
use Rattle.fleet_run.specs.declared.run.RunFault.{RunFault}
use Rattle.fleet_run.specs.declared.run.RunFault.TheVariants as r

-- the words of the line of a run that stopped
abbrev pub run_words : RunFault → List (List ℕ)
run_words r.OutOfMemory = memory_words
run_words (r.Source tick) = named_at (codes "run") 2 (codes "Source") (codes "tick") tick
run_words (r.Hold line) = named_at (codes "run") 3 (codes "Hold") (codes "line") line
run_words r.Write = named (codes "run") 4 (codes "Write")
run_words r.HoldLimit = named (codes "run") 5 (codes "HoldLimit")

-- whether memory, the source or the sink failed
abbrev pub is_run_failure : RunFault → Bool
is_run_failure r.OutOfMemory = true
is_run_failure (r.Source _) = true
is_run_failure r.Write = true
is_run_failure _ = false
