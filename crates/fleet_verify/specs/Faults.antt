-- The first of the faults of a program, for a ground and the tasks of an instance.
use Rattle.std.specs.Prelude.{option_map, ◌≡◌, ℕ, ◌+◌, ◌<◌, ◌≤◌, Bool, IsTrue, List, length, EachIndex, Contains, slice_get, Some}
use Rattle.fleet_model.specs.declared.geometry.Place.{Place}
use Rattle.fleet_model.specs.declared.task.Task.{Task}
use Rattle.fleet_model.specs.declared.program.Await.{Await}
use Rattle.fleet_model.specs.declared.program.ActionId.{ActionId}
use Rattle.fleet_model.specs.declared.program.Visit.{Visit}
use Rattle.fleet_model.specs.Geometry.{place_of}
use Rattle.fleet_model.specs.Program.{Program, start_of, goal_of, moves, awaits_of, path, IsInRange}
use Rattle.fleet_model.specs.Chain.{IsNumbering}
use Rattle.fleet_model.specs.Visit.{IsVisit, IsVisitOf, ListsVisits, Adjacent, ComesAfter, AreUnordered}
use Rattle.fleet_verify.specs.Listing.{AreLevels, IsSooner, IsSortedListing}
use Rattle.fleet_verify.specs.Ring.{IsToldRing}
use Rattle.fleet_verify.specs.declared.fault.VerifyFault.{VerifyFault}
use Rattle.fleet_verify.specs.declared.fault.VerifyFault.TheVariants.{OutOfMemory, OtherFleet, Start, Goal, Step, AwaitRange, Cyclic, Unordered}

-- ---- what is judged, in this order

-- as many agents as tasks
abbrev pub HasFleet : List Task → Program → Type 0
HasFleet tasks p = length p ≡ length tasks

-- the start is the task's
abbrev pub StartsRight : List Task → Program → ℕ → Type 0
StartsRight tasks p i = option_map (λ t. t.start) (slice_get tasks i) ≡ Some (start_of p i)

-- the goal is the task's, and the path ends on it
pub record EndsRight (tasks : List Task) (p : Program) (i : ℕ) : Type 0 where
  pub goal : option_map (λ t. t.goal) (slice_get tasks i) ≡ Some (goal_of p i)
  pub arrives : path p i (moves p i) ≡ place_of (goal_of p i)

-- after n actions the agent stands on passable ground
abbrev pub StandsRight : (Place → Bool) → Program → ℕ → ℕ → Type 0
StandsRight passable p i n = IsTrue (passable (path p i n))

-- each await of action n can be met. In a well-formed program it cannot only if its count is above the awaited agent's
-- moves
pub record AwaitsRight (p : Program) (i n : ℕ) : Type 0 where
  pub met : (w : Await) → Contains (awaits_of p i n) w → IsInRange p i w

-- it is so for each agent after each number of its actions
abbrev pub EachAction : Program → (ℕ → ℕ → Type 0) → Type 0
EachAction p Right = (i n : ℕ) → i < length p → n ≤ moves p i → Right i n

-- ---- how far all is right

-- the fleet, and the starts
pub record HasStarts (tasks : List Task) (p : Program) : Type 0 where
  pub fleet : HasFleet tasks p
  pub starts : EachIndex p (StartsRight tasks p)

-- and the goals
pub record HasEnds (tasks : List Task) (p : Program) : Type 0 where
  pub before : HasStarts tasks p
  pub ends : EachIndex p (EndsRight tasks p)

-- and the steps
pub record HasSteps (passable : Place → Bool) (tasks : List Task) (p : Program) : Type 0 where
  pub before : HasEnds tasks p
  pub steps : EachAction p (StandsRight passable p)

-- and the awaits
pub record HasRanges (passable : Place → Bool) (tasks : List Task) (p : Program) : Type 0 where
  pub before : HasSteps passable tasks p
  pub ranges : EachAction p (AwaitsRight p)

-- and there is a numbering
pub record HasNumbering (passable : Place → Bool) (tasks : List Task) (p : Program) : Type 0 where
  pub before : HasRanges passable tasks p
  pub number : ActionId → ℕ
  pub numbering : IsNumbering p number

-- ---- the first of each kind

-- the least agent that is not so
pub record IsFirstAgent (p : Program) (Right : ℕ → Type 0) (i : ℕ) : Type 0 where
  pub agent : i < length p
  pub wrong : Right i → ⊥
  pub sooner : (j : ℕ) → j < i → Right j

-- the least number up to a last one that is not so
pub record IsFirstNumber (last : ℕ) (Right : ℕ → Type 0) (n : ℕ) : Type 0 where
  pub within : n ≤ last
  pub wrong : Right n → ⊥
  pub sooner : (m : ℕ) → m < n → Right m

-- the least agent, and its least action, that is not so
pub record IsFirstAction (p : Program) (Right : ℕ → ℕ → Type 0) (i n : ℕ) : Type 0 where
  pub agent : i < length p
  pub action : IsFirstNumber (moves p i) (Right i) n
  pub others : (j m : ℕ) → j < i → m ≤ moves p j → Right j m

-- the visits of the place can be listed so that each comes after the one before
abbrev pub IsOrderlyAt : (Program → Visit → Visit → Type 0) → Program → Place → Type 0
IsOrderlyAt After p q = (listing : List Visit) × ListsVisits p q listing × Adjacent (After p) listing

-- the first neighbours in the list of which the second may not come after the first
pub record IsFirstBreak (R : Visit → Visit → Type 0) (l : List Visit) (first second : Visit) : Type 0 where
  pub at : ℕ
  pub here : slice_get l at ≡ Some first
  pub next : slice_get l (at + 1) ≡ Some second
  pub breaks : R first second → ⊥
  pub sooner : (k : ℕ) (v w : Visit) → k < at → slice_get l k ≡ Some v → slice_get l (k + 1) ≡ Some w → R v w

-- the first place without order, and of its visits, sorted by level, agent and position, the first neighbours that
-- break the rule
pub record IsUnordered (After : Program → Visit → Visit → Type 0) (p : Program) (q : Place) (first second : Visit) : Type 0 where
  -- the places that are visited sooner have their visits in order
  pub earlier : (u : Visit) → IsVisit p u → ((v : Visit) → IsVisitOf p q v → IsSooner u v) → IsOrderlyAt After p (path p u.agent u.position)
  pub level : ActionId → ℕ
  pub levels : AreLevels p level
  pub sorted : List Visit
  pub listing : IsSortedListing p level q sorted
  pub broken : IsFirstBreak (After p) sorted first second

-- ---- the first fault

-- all that is judged before it is right, and it is the first of its kind. Want of memory may stand in place of any
-- other
abbrev pub IsFault : (Place → Bool) → List Task → Program → VerifyFault → Type 0
IsFault passable tasks p OutOfMemory = Unit {0}
IsFault passable tasks p OtherFleet = HasFleet tasks p → ⊥
IsFault passable tasks p (Start i) = HasFleet tasks p × IsFirstAgent p (StartsRight tasks p) i
IsFault passable tasks p (Goal i) = HasStarts tasks p × IsFirstAgent p (EndsRight tasks p) i
IsFault passable tasks p (Step i n) = HasEnds tasks p × IsFirstAction p (StandsRight passable p) i n
IsFault passable tasks p (AwaitRange i n) = HasSteps passable tasks p × IsFirstAction p (AwaitsRight p) i n
IsFault passable tasks p (Cyclic ring) = HasRanges passable tasks p × IsToldRing p ring.items
IsFault passable tasks p (Unordered cell first second) = HasNumbering passable tasks p × IsUnordered ComesAfter p (place_of cell) first second

-- a ring of needs, or two visits of a cell that have no order either way. Want of memory may stand in place of either
abbrev pub IsOfOrder : Program → VerifyFault → Type 0
IsOfOrder p OutOfMemory = Unit {0}
IsOfOrder p (Cyclic ring) = IsToldRing p ring.items
IsOfOrder p (Unordered cell first second) = AreUnordered p (place_of cell) first second
IsOfOrder p _ = ⊥
