-- What the line of a fault is made of.
use Rattle.std.specs.Prelude.{ℕ, List, codes}
use Rattle.fleet_text.specs.Refusals.{memory_words, named, named_at, named_by}
use Rattle.fleet_scen.specs.declared.fault.Particulars.{Particulars}
use Rattle.fleet_scen.specs.declared.fault.Particulars.TheVariants.{Memory, Named, At, Field}

-- the words of the line that is made of these
abbrev pub particular_words : Particulars → List (List ℕ)
particular_words Memory = memory_words
particular_words (Named number name) = named (codes "scen") number name.now
particular_words (At number name line) = named_at (codes "scen") number name.now (codes "line") line
particular_words (Field line field) = named_by (codes "scen") 4 (codes "Number") (codes "line") line (codes "field") field
