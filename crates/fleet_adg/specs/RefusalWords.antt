-- The line of a plan that was not compiled.
use Rattle.std.specs.Prelude.{ℕ, Bool, true, false, List, codes}
use Rattle.fleet_text.specs.Refusals.{memory_words, named}
use Rattle.fleet_adg.specs.declared.fault.CompileFault.{CompileFault}
use Rattle.fleet_adg.specs.declared.fault.CompileFault.TheVariants as c

-- the words of the line of a plan that was not compiled
abbrev pub compile_words : CompileFault → List (List ℕ)
compile_words c.OutOfMemory = memory_words
compile_words c.TooLong = named (codes "compile") 2 (codes "TooLong")

-- whether memory failed
abbrev pub is_compile_failure : CompileFault → Bool
is_compile_failure c.OutOfMemory = true
is_compile_failure _ = false
