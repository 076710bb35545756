-- Actions finished in any order that respects needs: their levels, and the visits that have begun.
use Rattle.std.specs.Prelude.{◌≡◌, ◌≢◌, ℕ, ◌+◌, ◌-◌, ◌^◌, ◌<◌, ◌≤◌, ◌⊎◌, Bool, Some, None, List, [], ◌∷◌, ◌++◌, length, get_or, set, slice_get, slice_index, Option, Contains, IsTrue, IfSome}
use Rattle.std.specs.List.{AllPairs}
use Rattle.fleet_model.specs.declared.limits.TheConstants.{MAX_MOVES_IN_ALL}
use Rattle.fleet_model.specs.declared.geometry.Cell.{Cell}
use Rattle.fleet_model.specs.declared.geometry.Place.{Place}
use Rattle.fleet_model.specs.declared.program.ActionId.{ActionId}
use Rattle.fleet_model.specs.declared.program.Await.{Await}
use Rattle.fleet_model.specs.declared.program.Visit.{Visit}
use Rattle.fleet_model.specs.Geometry.{place_of}
use Rattle.fleet_model.specs.Program.{Program, origin, moves, path, awaits_of, step_of, IsCell}
use Rattle.fleet_model.specs.Visit.{IsVisit}
use Rattle.fleet_verify.specs.declared.ahead.Needs.{Needs}
use Rattle.fleet_verify.specs.declared.ahead.Runner.{Runner}
use Rattle.fleet_verify.specs.Rising.{last_level, climbed}
use Rattle.fleet_model.specs.Chain.{IsAction, DirectlyNeeds}
use Rattle.fleet_model.specs.declared.task.Task.{Task}
use Rattle.fleet_verify.specs.Faults.{StandsRight, EndsRight}
use Rattle.fleet_verify.specs.LastVisits.{kept_at}
use Rattle.fleet_verify.specs.Order.{AreAddedBy, numbered_cell}
use Rattle.fleet_verify.specs.Rows.{IsCountedUp}
use Rattle.fleet_verify.specs.declared.order.OpenPair.{OpenPair}
use Rattle.fleet_verify.specs.declared.ahead.Ahead.{Ahead}

-- ---- levels

-- each action has the least level above those of all that it directly needs
abbrev pub AreCountedUp : Program → (ActionId → ℕ) → Type 0
AreCountedUp p level = (a : ActionId) → IsAction p a → IsCountedUp p level a

-- n is the greatest of the levels of all actions, or 0 if there are none
pub record IsTop (p : Program) (level : ActionId → ℕ) (n : ℕ) : Type 0 where
  pub some : (n ≡ 0) ⊎ ((a : ActionId) × IsAction p a × (n ≡ level a))
  pub most : (a : ActionId) → IsAction p a → level a ≤ n

-- how many actions of agent i have a level in these rows
abbrev pub count_in : List (List ℕ) → ℕ → ℕ
count_in rows i = length (get_or rows i [])

-- the level of the action in these rows
abbrev pub level_in : List (List ℕ) → ActionId → ℕ
level_in rows a = slice_index (get_or rows a.agent []) (a.number - 1)

-- the action has a level in these rows
pub record IsRanked (rows : List (List ℕ)) (a : ActionId) : Type 0 where
  pub first : 1 ≤ a.number
  pub last : a.number ≤ count_in rows a.agent

-- of each agent the first actions have levels, and with an action all that it directly needs
pub record AreRanked (p : Program) (rows : List (List ℕ)) : Type 0 where
  pub within : (i : ℕ) → count_in rows i ≤ moves p i
  pub closed : (a b : ActionId) → IsRanked rows a → DirectlyNeeds p a b → IsRanked rows b
  pub counted : (a : ActionId) → IsRanked rows a → IsCountedUp p (level_in rows) a

-- the next action of agent i
abbrev pub next_in : List (List ℕ) → ℕ → ActionId
next_in rows i = record { agent = i; number = count_in rows i + 1 }

-- all that the next action of agent i directly needs has levels, and l is the least level above them
pub record IsNextLevel (p : Program) (rows : List (List ℕ)) (i l : ℕ) : Type 0 where
  pub needs : (b : ActionId) → DirectlyNeeds p (next_in rows i) b → IsRanked rows b × (level_in rows b < l)
  pub least : (l ≡ 1) ⊎ ((b : ActionId) × IsRanked rows b × DirectlyNeeds p (next_in rows i) b × (l ≡ level_in rows b + 1))

-- the next action of agent i has got level l
pub record AddsLevel (old new : List (List ℕ)) (i l : ℕ) : Type 0 where
  pub own : get_or new i [] ≡ get_or old i [] ++ l ∷ []
  pub others : (j : ℕ) → j ≢ i → get_or new j [] ≡ get_or old j []

-- ---- visits

-- of each agent i the first begun i positions, in some order, each once and on passable ground; the visits among them
-- are grouped in that order
pub record AreBegun (passable : Place → Bool) (p : Program) (begun : ℕ → ℕ) (last : Cell → Option Visit) (pairs : List OpenPair) : Type 0 where
  pub positions : List Visit
  pub all : (v : Visit) → v.agent < length p → v.position < begun v.agent → Contains positions v
  pub only : (v : Visit) → Contains positions v → (v.agent < length p) × (v.position < begun v.agent)
  pub distinct : AllPairs (λ v w. v ≢ w) positions
  pub on_ground : (i n : ℕ) → i < length p → n < begun i → StandsRight passable p i n
  pub added : AreAddedBy p positions last pairs

-- each cell that keeps a visit is passable ground
abbrev pub AreKeptOnGround : (Place → Bool) → (Cell → Option Visit) → Type 0
AreKeptOnGround passable last = (c : Cell) → IsCell c → (v : Visit) → last c ≡ Some v → IsTrue (passable (place_of c))

-- each visit of the agent of w that a cell keeps is earlier than w
abbrev pub AreEarlier : (Cell → Option Visit) → Visit → Type 0
AreEarlier last w = (c : Cell) → IsCell c → (v : Visit) → last c ≡ Some v → v.agent ≡ w.agent → v.position < w.position

-- what the cells keep is on passable ground, and earlier than w if it is by the agent of w
pub record AreKeptBefore (passable : Place → Bool) (last : Cell → Option Visit) (w : Visit) : Type 0 where
  pub ground : AreKeptOnGround passable last
  pub earlier : AreEarlier last w

-- the rows have the levels of the actions that are finished, the cells are those that the agents have come to by them,
-- and the visits that have begun so are added
pub record IsAheadBy (passable : Place → Bool) (p : Program) (levels : List (List ℕ)) (stands : List Cell) (last : Cell → Option Visit) (pairs : List OpenPair) : Type 0 where
  pub rows : length levels ≡ length p
  pub cells : length stands ≡ length p
  pub ranked : AreRanked p levels
  pub here : (i : ℕ) → i < length p → place_of (get_or stands i origin) ≡ path p i (count_in levels i)
  pub begun : AreBegun passable p (λ i. count_in levels i + 1) last pairs

-- so it is with these agents
abbrev pub IsAhead : (Place → Bool) → Program → Ahead → Type 0
IsAhead passable p a = IsAheadBy passable p a.rows.items a.cells.items (kept_at a.last) a.pairs.items

-- the cell that the runner is on
abbrev pub stand : Runner → Cell
stand r = numbered_cell r.number

-- the rows, of which that of agent i has climbed to so many levels
abbrev pub climbed_in : List (List ℕ) → ℕ → ℕ → List (List ℕ)
climbed_in rows i count = set rows i (climbed (get_or rows i []) count)

-- agent i, whose row climbs with it, has come so far and has an action left, which the view keeps there
pub record IsNext (p : Program) (offset : (i finished k : ℕ) → ℕ) (rows : List (List ℕ)) (i : ℕ) (r : Runner) : Type 0 where
  pub agent : i < length p
  pub begun : count_in rows i ≤ r.finished
  pub left : r.finished < moves p i
  pub level : r.level ≡ last_level (climbed (get_or rows i []) r.finished)
  pub at : r.at ≡ offset i r.finished 0

-- agent i, whose row climbs with it, has run on so far
pub record IsRunner (passable : Place → Bool) (p : Program) (offset : (i finished k : ℕ) → ℕ) (a : Ahead) (i : ℕ) (r : Runner) : Type 0 where
  pub agent : i < length p
  pub begun : count_in a.rows.items i ≤ r.finished
  pub level : r.level ≡ last_level (climbed (get_or a.rows.items i []) r.finished)
  pub at : r.at ≡ offset i r.finished 0
  pub ahead : IsAheadBy passable p (climbed_in a.rows.items i r.finished) (set a.cells.items i (stand r)) (kept_at a.last) a.pairs.items

-- agent i of these agents has come so far, and the view keeps its next instruction there
pub record HasCome (offset : (i finished k : ℕ) → ℕ) (a : Ahead) (i : ℕ) (r : Runner) : Type 0 where
  pub finished : r.finished ≡ count_in a.rows.items i
  pub at : r.at ≡ offset i r.finished 0
  pub level : r.level ≡ last_level (get_or a.rows.items i [])
  pub cell : stand r ≡ get_or a.cells.items i (stand r)

-- agent i has stopped there, and all else is as it was
pub record HasStopped (old new : Ahead) (i : ℕ) (r : Runner) : Type 0 where
  pub rows : new.rows.items ≡ climbed_in old.rows.items i r.finished
  pub cells : new.cells.items ≡ set old.cells.items i (stand r)
  pub last : kept_at new.last ≡ kept_at old.last
  pub pairs : new.pairs.items ≡ old.pairs.items

-- the await is one of those of action n of agent i, or of agent i itself
abbrev pub IsAwaitOrOwn : Program → (i n : ℕ) → Await → Type 0
IsAwaitOrOwn p i n w = (w.agent ≡ i) ⊎ Contains (awaits_of p i n) w

-- it is a visit, and the await is one of the action that enters it, or of its own agent
pub record IsEntry (p : Program) (v : Visit) (w : Await) : Type 0 where
  pub visit : IsVisit p v
  pub latest : IsAwaitOrOwn p v.agent v.position w

-- the last of the first k awaits of action n of agent i, or for none of them one of agent i itself
abbrev pub IsLastAwait : Program → (i n k : ℕ) → Await → Type 0
IsLastAwait p i n k w = ((k ≡ 0) × (w ≡ record { agent = i; count = 0 })) ⊎ (slice_get (awaits_of p i n) (k - 1) ≡ Some w)

-- what the action of agent i after so many says, all of whose awaits are met, and where the next action stands
pub record AreNeeds (p : Program) (offset : (i finished k : ℕ) → ℕ) (rows : List (List ℕ)) (i finished : ℕ) (needs : Needs) : Type 0 where
  pub level : IsNextLevel p rows i needs.level
  pub latest : IsAwaitOrOwn p i (finished + 1) needs.latest
  pub step : step_of p i (finished + 1) ≡ Some needs.step
  pub after : needs.after ≡ offset i (finished + 1) 0

-- that of the next action of agent i, which has come so far, with the last of its awaits
pub record AreNextNeeds (p : Program) (offset : (i finished k : ℕ) → ℕ) (rows : List (List ℕ)) (i : ℕ) (r : Runner) (n : Needs) : Type 0 where
  pub needs : AreNeeds p offset (climbed_in rows i r.finished) i r.finished n
  pub latest : IsLastAwait p i (r.finished + 1) (length (awaits_of p i (r.finished + 1))) n.latest

-- action n of agent i, its next one, awaits what is not finished yet; or its level would be above all levels
abbrev pub IsKeptBack : Program → List (List ℕ) → (i n : ℕ) → Await → Type 0
IsKeptBack p rows i n w =
    (Contains (awaits_of p i n) w × (count_in rows w.agent < w.count))
    ⊎ ((l : ℕ) × IsNextLevel p rows i l × (MAX_MOVES_IN_ALL < l))

-- agent i has finished all its actions, or this await keeps it back
abbrev pub IsStopped : Program → List (List ℕ) → ℕ → Option Await → Type 0
IsStopped p rows i None = count_in rows i ≡ moves p i
IsStopped p rows i (Some w) = IsKeptBack p rows i (count_in rows i + 1) w

-- nobody can go on: each agent has finished all its actions, or is kept back
abbrev pub NobodyGoesOn : Program → List (List ℕ) → Type 0
NobodyGoesOn p rows = (i : ℕ) → i < length p → (w : Option Await) × IsStopped p rows i w

-- agent i can go on: it is not stopped by any await, nor at its end
abbrev pub CanGoOn : Program → List (List ℕ) → ℕ → Type 0
CanGoOn p rows i = (w : Option Await) → ¬ IsStopped p rows i w

-- these agents have run ahead until nobody could go on
pub record AreStill (passable : Place → Bool) (p : Program) (a : Ahead) : Type 0 where
  pub ahead : IsAhead passable p a
  pub still : NobodyGoesOn p a.rows.items

-- agent i of these agents has stopped, and the queue, of so many agents, is of as many as before
pub record IsStoppedAhead (passable : Place → Bool) (p : Program) (a : Ahead) (i old new : ℕ) : Type 0 where
  pub ahead : IsAhead passable p a
  pub queue : new ≡ old
  pub stopped : (w : Option Await) × IsStopped p a.rows.items i w

-- the rows of all but agent i are as they were
abbrev pub KeepsOthers : List (List ℕ) → List (List ℕ) → ℕ → Type 0
KeepsOthers old new i = (j : ℕ) → j ≢ i → get_or new j [] ≡ get_or old j []

-- the row of agent i, which has climbed so far, has one level more, and the others are as they were
pub record HasRaised (old new : List (List ℕ)) (i finished level : ℕ) : Type 0 where
  pub rows : length new ≡ length old
  pub begun : count_in new i ≤ finished + 1
  pub raised : AddsLevel (climbed_in old i finished) (climbed_in new i (finished + 1)) i level
  pub others : KeepsOthers old new i

-- agent i alone has run on: it has finished more actions, or no row has changed
pub record IsRunOn (old new : List (List ℕ)) (i : ℕ) : Type 0 where
  pub own : (count_in old i < count_in new i) ⊎ (new ≡ old)
  pub others : KeepsOthers old new i

-- the agent has come to its end, or to an action that awaits something, or its level with all its moves is too high
abbrev pub IsBareNoMore : Program → (i count level : ℕ) → Type 0
IsBareNoMore p i count level = (count ≡ moves p i) ⊎ ((1 ≤ length (awaits_of p i (count + 1))) ⊎ (2 ^ 32 ≤ level + moves p i))

-- agent i has come onto the cell with this number by its action n, and that is passable ground: the visit is added, if
-- it is one, and no row or cell has changed yet
pub record ComesOnto (passable : Place → Bool) (p : Program) (old new : Ahead) (i n number : ℕ) : Type 0 where
  pub rows : new.rows.items ≡ old.rows.items
  pub cells : new.cells.items ≡ old.cells.items
  pub here : place_of (numbered_cell number) ≡ path p i n
  pub ground : IsTrue (passable (place_of (numbered_cell number)))
  pub added : (visits : List Visit) → AreAddedBy p visits (kept_at old.last) old.pairs.items
      → AreAddedBy p (visits ++ record { agent = i; position = n } ∷ []) (kept_at new.last) new.pairs.items

-- agent i alone has gone on from there, by one action, of level l
pub record HasGoneOn (passable : Place → Bool) (p : Program) (offset : (i finished k : ℕ) → ℕ) (old new : Ahead) (i l : ℕ) (from r : Runner) : Type 0 where
  pub runner : IsRunner passable p offset new i r
  pub finished : r.finished ≡ from.finished + 1
  pub level : r.level ≡ l
  pub others : KeepsOthers old.rows.items new.rows.items i

-- agent i alone has gone on from there, along actions that await nothing
pub record HasRunBare (passable : Place → Bool) (p : Program) (offset : (i finished k : ℕ) → ℕ) (old new : Ahead) (i : ℕ) (from r : Runner) : Type 0 where
  pub runner : IsRunner passable p offset new i r
  pub finished : from.finished ≤ r.finished
  pub rest : IsBareNoMore p i r.finished from.level
  pub others : KeepsOthers old.rows.items new.rows.items i

-- agent i alone has run on as far as its awaits allow, and waits for this one, if for any
pub record HasRunOut (passable : Place → Bool) (p : Program) (old new : Ahead) (i : ℕ) (w : Option Await) : Type 0 where
  pub ahead : IsAhead passable p new
  pub waits : IfSome w (λ a. a.agent < length p)
  pub stopped : IsStopped p new.rows.items i w
  pub run_on : IsRunOn old.rows.items new.rows.items i

-- the visit is entered, if by a move, by an action whose step, and one of whose awaits, are these
pub record IsArrival (p : Program) (v : Visit) (needs : Needs) : Type 0 where
  pub first : 1 ≤ v.position
  pub last : v.position ≤ moves p v.agent
  pub step : step_of p v.agent v.position ≡ Some needs.step
  pub latest : IsAwaitOrOwn p v.agent v.position needs.latest

-- ---- the ends

-- all agents have finished all actions and stand where they are to end
abbrev pub HaveFinished : List Task → Program → List (List ℕ) → Type 0
HaveFinished tasks p rows = (i : ℕ) → i < length p → (count_in rows i ≡ moves p i) × EndsRight tasks p i

-- the first n agents have finished all actions and stand where they are to end, and the chain is the greatest of their
-- levels
pub record AreDone (tasks : List Task) (p : Program) (rows : List (List ℕ)) (n chain : ℕ) : Type 0 where
  pub whole : (i : ℕ) → i < n → count_in rows i ≡ moves p i
  pub ends : (i : ℕ) → i < n → EndsRight tasks p i
  pub some : (chain ≡ 0) ⊎ ((a : ActionId) × (a.agent < n) × (1 ≤ a.number) × (a.number ≤ count_in rows a.agent) × (chain ≡ level_in rows a))
  pub most : (i : ℕ) → i < n → slice_index (get_or rows i []) (count_in rows i - 1) ≤ chain
