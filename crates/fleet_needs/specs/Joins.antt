-- Rows that are made, one for each of these actions in turn, and the rows that stand for actions.
use Rattle.std.specs.Prelude.{◌≡◌, ◌≢◌, ℕ, ◌+◌, ◌-◌, ◌<◌, ◌≤◌, ◌⊎◌, All, Bool, List, length, get_or, map, slice_index, take, Vec}
use Rattle.std.specs.List.{flat_map}
use Rattle.std.specs.declared.alloc.Global.{Global}
use Rattle.fleet_needs.specs.Words.{ActionId, Await, Program, awaits_of, moves, total_awaits, AreInRange, IsAction, Reaches, awaited}
use Rattle.fleet_needs.specs.Implied.{AreAwaitPlaces, AreSet}
use Rattle.fleet_needs.specs.Keys.{action_of_key, need_of_key, value_of_key}
use Rattle.fleet_needs.specs.Places.{row_first, row_place}
use Rattle.fleet_needs.specs.Rows.{action_before}
use Rattle.fleet_needs.specs.declared.schedule.Joins.{Joins}
use Rattle.fleet_needs.specs.declared.schedule.Need.{Need}

-- whatever reaches action n of agent i from another agent reaches the action before: no chain is added there
abbrev pub AddsNone : Program → ℕ → ℕ → Type 0
AddsNone p i n = (j c : ℕ) → j ≢ i → Reaches p (record { agent = j; number = c }) (record { agent = i; number = n }) → Reaches p (record { agent = j; number = c }) (record { agent = i; number = n - 1 })

-- agent i adds no chain after its action q, up to action n
abbrev pub AreQuiet : Program → ℕ → ℕ → ℕ → Type 0
AreQuiet p i q n = (m : ℕ) → q < m → m ≤ n → AddsNone p i m

-- the action is one of the program, and awaits something
pub record IsAwaiting (p : Program) (a : ActionId) : Type 0 where
  pub action : IsAction p a
  pub some : 1 ≤ length (awaits_of p a.agent a.number)

-- what is read past the actions
abbrev pub no_action : ActionId
no_action = record { agent = 0; number = 0 }

-- the action of the row after n others
abbrev pub action_at : List ActionId → ℕ → ActionId
action_at rows n = get_or rows n no_action

-- row r is that of the action
pub record IsRow (rows : List ActionId) (r : ℕ) (a : ActionId) : Type 0 where
  pub some : 1 ≤ r
  pub upto : r ≤ length rows
  pub of : action_at rows (r - 1) ≡ a

-- .. or there is no action, and r is 0
abbrev pub IsRowOrNone : List ActionId → ℕ → ActionId → Type 0
IsRowOrNone rows r a = ((r ≡ 0) × (a.number ≡ 0)) ⊎ IsRow rows r a

-- row r stands for action n of agent i: it is that of an action of the agent after which no chain is added up to there,
-- or there is none, and r is 0
pub record StandsFor (p : Program) (rows : List ActionId) (r i n : ℕ) : Type 0 where
  pub number : ℕ
  pub upto : number ≤ n
  pub quiet : AreQuiet p i number n
  pub row : IsRowOrNone rows r (record { agent = i; number = number })

-- each action of the program has a row, or there is that to say of it
abbrev pub HasRowOr : (ActionId → Type 0) → Program → List ActionId → Type 0
HasRowOr Else p rows = (a : ActionId) → IsAction p a → ((r : ℕ) × IsRow rows r a) ⊎ Else a

-- each that adds a chain has a row
abbrev pub HasAllRows : Program → List ActionId → Type 0
HasAllRows p rows = HasRowOr (λ a. AddsNone p a.agent a.number) p rows

-- each has a row, unless the flags of all its awaits are set
abbrev pub HasRowUnlessSet : Program → List Bool → List ActionId → Type 0
HasRowUnlessSet p flags rows = HasRowOr (AreSet p flags) p rows

-- no action needs a later one of its agent
abbrev pub AreOwn : Program → Type 0
AreOwn p = (a : ActionId) (c : ℕ) → IsAction p a → Reaches p (record { agent = a.agent; number = c }) a → c ≤ a.number

-- the rows of an agent rise with its actions
abbrev pub AreRising : List ActionId → Type 0
AreRising rows = (m n : ℕ) → m < n → n < length rows → (action_at rows m).agent ≡ (action_at rows n).agent → (action_at rows m).number < (action_at rows n).number

-- the agent has this action, or, with the number 0, it is before its first one
pub record IsUpToLast (p : Program) (a : ActionId) : Type 0 where
  pub agent : a.agent < length p
  pub last : a.number ≤ moves p a.agent

-- ---- the rows that stand for actions, by their places

-- where the awaits of each agent begin, and one more than the row at each place
pub record RowTable : Type 0 where
  pub places : List ℕ
  pub rows : List ℕ

-- the row noted for the action, or, with the number 0, for none of its agent: one less than what stands at its place
abbrev pub row_of : Program → RowTable → ActionId → ℕ
row_of p m a = slice_index m.rows (row_place p a) - 1

-- there is room to note a row for each action
pub record HasRoom (p : Program) (m : RowTable) : Type 0 where
  pub places : AreAwaitPlaces p m.places
  pub room : length m.rows ≡ total_awaits p + length p

-- .. and each is that which stands for it
pub record AreStanding (p : Program) (rows : List ActionId) (m : RowTable) : Type 0 where
  pub room : HasRoom p m
  pub each : (a : ActionId) → IsUpToLast p a → StandsFor p rows (row_of p m a) a.agent a.number

-- places have one more than a row of an action that has the place, or 0: of all that are to have a row the first n have
-- one, those before each agent's first action and then those of these rows
pub record AreNoted (p : Program) (rows : List ActionId) (n : ℕ) (noted : Vec ℕ Global) : Type 0 where
  pub room : length noted.items ≡ total_awaits p + length p
  pub each : (x : ℕ) → 1 ≤ slice_index noted.items x → (a : ActionId) × (row_place p a ≡ x) × IsRowOrNone rows (slice_index noted.items x - 1) a
  pub none : (i : ℕ) → i < length p → i < n → 1 ≤ slice_index noted.items (row_first p i)
  pub some : (m : ℕ) → length p + m < n → 1 ≤ slice_index noted.items (row_place p (action_at rows m))

-- .. of all rows
abbrev pub AreAllNoted : Program → List ActionId → Vec ℕ Global → Type 0
AreAllNoted p rows noted = AreNoted p rows (length p + length rows) noted

-- place x has what the last place up to it had that was not 0
pub record IsFilled (old new : Vec ℕ Global) (x : ℕ) : Type 0 where
  pub from : ℕ
  pub upto : from ≤ x
  pub same : slice_index new.items x ≡ slice_index old.items from
  pub some : 1 ≤ from → 1 ≤ slice_index old.items from
  pub none : (y : ℕ) → from < y → y ≤ x → slice_index old.items y ≡ 0

-- ---- what rows are joined of

-- the actions whose rows are made, in their order
abbrev pub rows_of : Joins → List ActionId
rows_of x = map action_of_key x.keys.items

-- the row that the one after n others is joined of for the action before
abbrev pub base_of : Joins → ℕ → ℕ
base_of x n = value_of_key (slice_index x.keys.items n)

-- where the awaits of row n end, and those of the one after it begin
abbrev pub end_of : Joins → ℕ → ℕ
end_of x n = slice_index x.ends.items n

-- what is needed by these keys
abbrev pub needs_in : Vec ℕ Global → List Need
needs_in keys = map need_of_key keys.items

-- what is read past it
abbrev pub no_need : Need
no_need = record { row = 0; wait = record { agent = 0; count = 0 } }

-- by the key at a place
abbrev pub need_at : Joins → ℕ → Need
need_at x place = get_or (needs_in x.awaits) place no_need

-- what an await needs
abbrev pub need_for : Program → RowTable → Await → Need
need_for p m w = record { row = row_of p m (awaited w); wait = w }

-- .. and all awaits of an action
abbrev pub needs_of : Program → RowTable → ActionId → List Need
needs_of p m a = map (need_for p m) (awaits_of p a.agent a.number)

-- of these rows the first n are listed, with what they are joined of
pub record AreListedTo (p : Program) (rows : List ActionId) (m : RowTable) (n : ℕ) (x : Joins) : Type 0 where
  pub range : AreInRange p
  pub room : HasRoom p m
  pub actions : All (IsAwaiting p) rows
  pub same : rows_of x ≡ rows
  pub bases : (i : ℕ) → i < n → base_of x i ≡ row_of p m (action_before (action_at rows i))
  pub awaits : needs_in x.awaits ≡ flat_map (needs_of p m) (take n rows)
  pub all : length x.ends.items ≡ length rows + 1
  pub ends : (i : ℕ) → i ≤ n → end_of x i ≡ length (flat_map (needs_of p m) (take i rows))

-- .. all of them
abbrev pub AreAllListed : Program → List ActionId → RowTable → Joins → Type 0
AreAllListed p rows m x = AreListedTo p rows m (length rows) x
