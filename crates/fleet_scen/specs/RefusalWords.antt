-- The line of a fault of a scenario.
use Rattle.std.specs.Prelude.{ℕ, Bool, true, false, List, codes}
use Rattle.fleet_text.specs.Refusals.{memory_words, named, named_at, named_by}
use Rattle.fleet_scen.specs.declared.fault.ScenFault.{ScenFault}
use Rattle.fleet_scen.specs.declared.fault.ScenFault.TheVariants as s

-- the words of the line of a fault of a scenario text
abbrev pub scen_words : ScenFault → List (List ℕ)
scen_words s.OutOfMemory = memory_words
scen_words s.Version = named (codes "scen") 2 (codes "Version")
scen_words (s.Fields line) = named_at (codes "scen") 3 (codes "Fields") (codes "line") line
scen_words (s.Number line field) = named_by (codes "scen") 4 (codes "Number") (codes "line") line (codes "field") field
scen_words (s.OtherMap line) = named_at (codes "scen") 5 (codes "OtherMap") (codes "line") line
scen_words (s.Blocked line) = named_at (codes "scen") 6 (codes "Blocked") (codes "line") line
scen_words (s.SharedStart line) = named_at (codes "scen") 7 (codes "SharedStart") (codes "line") line
scen_words (s.SharedGoal line) = named_at (codes "scen") 8 (codes "SharedGoal") (codes "line") line
scen_words s.NoAgents = named (codes "scen") 9 (codes "NoAgents")
scen_words s.TooMany = named (codes "scen") 10 (codes "TooMany")
scen_words s.Fewer = named (codes "scen") 11 (codes "Fewer")

-- whether memory failed
abbrev pub is_scen_failure : ScenFault → Bool
is_scen_failure s.OutOfMemory = true
is_scen_failure _ = false
