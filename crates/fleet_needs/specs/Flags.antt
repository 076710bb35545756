-- Flags of awaits: which of them say whether others imply their await.
use Rattle.std.specs.Prelude.{◌≡◌, true, ℕ, ◌+◌, ◌<◌, ◌≤◌, ◌⊎◌, Bool, false, List, length, get_or, Vec, vec_len}
use Rattle.std.specs.declared.alloc.Global.{Global}
use Rattle.fleet_needs.specs.Words.{Await, ActionId, Program, total_awaits}
use Rattle.fleet_needs.specs.Joins.{IsRow}
use Rattle.fleet_needs.specs.Schedule.{joins_of}
use Rattle.fleet_needs.specs.declared.schedule.Schedule.{Schedule}
use Rattle.fleet_needs.specs.declared.join_pass.SlotRows.{SlotRows}
use Rattle.fleet_needs.specs.Implied.{AreAwaitPlaces, IsImplied, IsImpliedFlag, EachFlag, first_await}
use Rattle.fleet_needs.specs.declared.implied.ImpliedAwaits.{ImpliedAwaits}

-- the flags of all awaits, by their places
abbrev pub flags_of : ImpliedAwaits → List Bool
flags_of m = m.flags.items

-- there is a flag for each await of the program, which says whether the await is implied; or the await is one of these,
-- and its flag is set only if it is implied
pub record AreFlagsBut (p : Program) (Open : ActionId → ℕ → Await → Type 0) (m : ImpliedAwaits) : Type 0 where
  pub places : AreAwaitPlaces p m.places
  pub all : length (flags_of m) ≡ total_awaits p
  pub known : EachFlag p (λ a k w flag. (Open a k w × (flag ≡ true → IsImplied p a w)) ⊎ IsImpliedFlag p a w flag) (flags_of m)

-- of each await of the program it is known whether it is implied
abbrev pub AreImplied : Program → ImpliedAwaits → Type 0
AreImplied p m = AreFlagsBut p (λ a k w. ⊥) m

-- the await is none of the first n of the program, in the order of their flags, or its agent is asked for
abbrev pub IsUnsettled : Program → List Bool → ℕ → ActionId → ℕ → Await → Type 0
IsUnsettled p asked n a k w = (n ≤ first_await p a + k) ⊎ (get_or asked w.agent false ≡ true)

-- of the first n awaits it is known whether they are implied, but for those whose agents are asked for
abbrev pub AreSettledTo : Program → List Bool → ℕ → ImpliedAwaits → Type 0
AreSettledTo p asked n m = AreFlagsBut p (IsUnsettled p asked n) m

-- .. by these flags of all agents of the program
pub record AreSettledBy (p : Program) (asked : Vec Bool Global) (n : ℕ) (m : ImpliedAwaits) : Type 0 where
  pub agents : vec_len asked ≡ length p
  pub settled : AreSettledTo p asked.items n m

-- .. of all of them
abbrev pub AreSettled : Program → List Bool → ImpliedAwaits → Type 0
AreSettled p asked m = AreSettledTo p asked (total_awaits p) m

-- the action has a row, and the await is of an agent who is asked for, and not below this one
pub record IsLeft (s : Schedule) (asked : List Bool) (from : ℕ) (a : ActionId) (w : Await) : Type 0 where
  pub row : ℕ
  pub of : IsRow (joins_of s) row a
  pub asks : get_or asked w.agent false ≡ true
  pub upon : from ≤ w.agent

-- all flags but those of awaits that are left say whether they are implied
abbrev pub AreFlaggedTo : Program → SlotRows → ℕ → ImpliedAwaits → Type 0
AreFlaggedTo p rows from m = AreFlagsBut p (λ a k w. IsLeft rows.schedule rows.asked.items from a w) m

-- place k of row r comes after the first n rows, and after so many places of the next
abbrev pub IsLater : (n many r k : ℕ) → Type 0
IsLater n many r k = (n + 1 < r) ⊎ ((r ≡ n + 1) × (many ≤ k))

-- the await is left in a block: it is of an agent of a later block, or of a row that comes later
abbrev pub IsLeftIn : SlotRows → (n many : ℕ) → ActionId → ℕ → Await → Type 0
IsLeftIn rows n many a k w = (h : IsLeft rows.schedule rows.asked.items rows.columns.first a w) × ((rows.columns.end ≤ w.agent) ⊎ IsLater n many h.row k)

-- .. and all other flags say so
abbrev pub AreFlaggedIn : Program → SlotRows → (n many : ℕ) → ImpliedAwaits → Type 0
AreFlaggedIn p rows n many m = AreFlagsBut p (IsLeftIn rows n many) m
