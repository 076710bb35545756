-- What the line of a fault of the bytes is made of.
use Rattle.std.specs.Prelude.{ℕ, List, codes}
use Rattle.fleet_text.specs.Refusals.{memory_words, named, named_at}
use Rattle.fleet_code.specs.declared.fault.Particulars.{Particulars}
use Rattle.fleet_code.specs.declared.fault.Particulars.TheVariants.{Memory, Named, At}

-- the words of the line that is made of these
abbrev pub particular_words : Particulars → List (List ℕ)
particular_words Memory = memory_words
particular_words (Named number name) = named (codes "load") number name.now
particular_words (At number name at) = named_at (codes "load") number name.now (codes "at") at
