-- Lists by keys.
use Rattle.std.specs.Prelude.{◌≡◌, ◌≢◌, ℕ, ◌≤◌, ◌/◌, ◌%◌, List, [], ◌∷◌, length, map, get_or, Vec}
use Rattle.std.specs.declared.alloc.Global.{Global}
use Rattle.fleet_model.specs.declared.geometry.Cell.{Cell}
use Rattle.fleet_grid.specs.declared.table.Key.{Key}
use Rattle.fleet_grid.specs.declared.table.TheConstants.{PAGE}

-- the list of a key, which is empty past the end of its row, and past the last row
unfoldable pub list_at : {V : Type 0} → List (List (List V)) → Key → List V
list_at rows key = get_or (get_or rows key.row []) key.place []

-- each key has the list that it had
abbrev pub HaveSameLists : {V : Type 0} → List (List (List V)) → List (List (List V)) → Type 0
HaveSameLists old new = (key : Key) → list_at new key ≡ list_at old key

-- a call was lent the list of the key and left another one, and the others stay
pub record IsChangedBy {V : Type 0} (leaves : Vec V Global → Vec V Global → Type 0) (old new : List (List (List V))) (key : Key) : Type 0 where
  pub before : Vec V Global
  pub after : Vec V Global
  pub lent : before.items ≡ list_at old key
  pub call : leaves before after
  pub left : list_at new key ≡ after.items
  pub others : (k : Key) → k ≢ key → list_at new k ≡ list_at old k

-- the key of a cell
abbrev pub key_of_cell : Cell → Key
key_of_cell c = record { row = c.y; place = c.x }

-- the key of a number
abbrev pub key_of_number : ℕ → Key
key_of_number n = record { row = n / PAGE; place = n % PAGE }

-- ---- numbers of lists

-- the number of a key's list; 0 if it has none of its own
unfoldable pub number_at : List (Vec ℕ Global) → Key → ℕ
number_at numbers key = get_or (get_or (map (λ v. v.items) numbers) key.row []) key.place 0

-- the list of a number, counted from 1; that of 0 is empty
unfoldable pub list_numbered : {V : Type 0} → List (Vec V Global) → ℕ → List V
list_numbered lists number = get_or ([] ∷ map (λ v. v.items) lists) number []

-- the list of a key's number
abbrev pub list_of : {V : Type 0} → List (Vec ℕ Global) → List (Vec V Global) → Key → List V
list_of numbers lists key = list_numbered lists (number_at numbers key)

-- the rows of lists for which these numbers and lists stand
unfoldable pub lists_by_key : {V : Type 0} → List (Vec ℕ Global) → List (Vec V Global) → List (List (List V))
lists_by_key numbers lists = map (map (list_numbered lists)) (map (λ v. v.items) numbers)

-- the numbers are those of lists or 0, and no two keys have one list
pub record HaveOwnLists {V : Type 0} (numbers : List (Vec ℕ Global)) (lists : List (Vec V Global)) : Type 0 where
  pub few : (k : Key) → number_at numbers k ≤ length lists
  pub apart : (k l : Key) → k ≢ l → number_at numbers k ≡ number_at numbers l → number_at numbers k ≡ 0

-- the key has the number, and the others have theirs as before
pub record IsNumbered (old new : List (Vec ℕ Global)) (key : Key) (number : ℕ) : Type 0 where
  pub here : number_at new key ≡ number
  pub others : (k : Key) → k ≢ key → number_at new k ≡ number_at old k
