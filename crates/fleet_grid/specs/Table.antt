-- Values by number, in pages.
use Rattle.std.specs.Prelude.{◌≡◌, ◌≢◌, ℕ, ◌/◌, ◌%◌, List, [], map, get_or, Vec}
use Rattle.std.specs.declared.alloc.Global.{Global}
use Rattle.fleet_grid.specs.declared.table.Table.{Table}
use Rattle.fleet_grid.specs.declared.table.TheConstants.{PAGE}

-- the items of the list at a place; past the last list there are none
abbrev pub items_at : {V : Type 0} → List (Vec V Global) → ℕ → List V
items_at lists k = get_or (map (λ v. v.items) lists) k []

-- the value of a number; past the end of its page it is the blank one
abbrev pub value_in : {V : Type 0} → Table V → ℕ → V
value_in t number = get_or (items_at t.pages.items (number / PAGE)) (number % PAGE) t.blank

-- the number has the value, and the others have theirs as before
pub record IsSet {V : Type 0} (old new : Table V) (number : ℕ) (value : V) : Type 0 where
  pub here : value_in new number ≡ value
  pub others : (k : ℕ) → k ≢ number → value_in new k ≡ value_in old k

-- each number has the value that it had
abbrev pub AreSame : {V : Type 0} → Table V → Table V → Type 0
AreSame old new = (k : ℕ) → value_in new k ≡ value_in old k
