-- The lines of bytes that are no program, and of a text that stands for no bytes.
use Rattle.std.specs.Prelude.{ℕ, Bool, true, false, List, codes}
use Rattle.fleet_text.specs.Refusals.{memory_words, named, named_at}
use Rattle.fleet_code.specs.declared.fault.HexFault.{HexFault}
use Rattle.fleet_code.specs.declared.fault.HexFault.TheVariants as h
use Rattle.fleet_code.specs.declared.fault.LoadFault.{LoadFault}
use Rattle.fleet_code.specs.declared.fault.LoadFault.TheVariants as l

-- the words of the line of a fault of a text
abbrev pub hex_words : HexFault → List (List ℕ)
hex_words h.OutOfMemory = memory_words
hex_words (h.Digit at) = named_at (codes "hex") 2 (codes "Digit") (codes "at") at
hex_words h.Odd = named (codes "hex") 3 (codes "Odd")

-- whether memory failed
abbrev pub is_hex_failure : HexFault → Bool
is_hex_failure h.OutOfMemory = true
is_hex_failure _ = false

-- the words of the line of a fault of the bytes
abbrev pub load_words : LoadFault → List (List ℕ)
load_words l.OutOfMemory = memory_words
load_words l.Magic = named (codes "load") 2 (codes "Magic")
load_words l.Truncated = named (codes "load") 3 (codes "Truncated")
load_words l.AgentCount = named (codes "load") 4 (codes "AgentCount")
load_words l.Total = named (codes "load") 5 (codes "Total")
load_words (l.Opcode at) = named_at (codes "load") 6 (codes "Opcode") (codes "at") at
load_words (l.AwaitAgent at) = named_at (codes "load") 7 (codes "AwaitAgent") (codes "at") at
load_words (l.AwaitOrder at) = named_at (codes "load") 8 (codes "AwaitOrder") (codes "at") at
load_words (l.AwaitCount at) = named_at (codes "load") 9 (codes "AwaitCount") (codes "at") at
load_words (l.Trailing at) = named_at (codes "load") 10 (codes "Trailing") (codes "at") at

-- whether memory failed
abbrev pub is_load_failure : LoadFault → Bool
is_load_failure l.OutOfMemory = true
is_load_failure _ = false
