-- The visits of a place among all visits in their order, and the first neighbours that break a rule.
use Rattle.std.specs.Prelude.{◌≡◌, ◌≢◌, ℕ, ◌+◌, ◌*◌, ◌<◌, ◌≤◌, List, map, slice_get, filter, Option, Some, None, All, Contains, ◌⊎◌, [], ◌∷◌, ◌++◌, ◌/◌, ◌%◌}
use Rattle.std.specs.List.{AllPairs}
use Rattle.fleet_model.specs.declared.limits.TheConstants.{MAX_COORDINATE}
use Rattle.fleet_model.specs.declared.geometry.Cell.{Cell}
use Rattle.fleet_model.specs.declared.geometry.Place.{Place}
use Rattle.fleet_model.specs.declared.program.ActionId.{ActionId}
use Rattle.fleet_model.specs.declared.program.Visit.{Visit}
use Rattle.fleet_model.specs.Geometry.{place_of, is_same_place}
use Rattle.fleet_model.specs.Program.{Program, moves, path, IsCell}
use Rattle.fleet_model.specs.Visit.{is_entry, IsVisit, Adjacent, ComesAfterByAwait, ComesAfter}
use Rattle.fleet_verify.specs.Faults.{IsOrderlyAt, IsFirstBreak}
use Rattle.fleet_verify.specs.Listing.{AreLevels, IsBefore, IsSortedListing}
use Rattle.fleet_verify.specs.declared.order.OrderViolation.{OrderViolation}
use Rattle.fleet_verify.specs.declared.order.OpenPair.{OpenPair}
use Rattle.fleet_verify.specs.declared.order.PlacedVisit.{PlacedVisit}
use Rattle.fleet_verify.specs.declared.order.VisitOrder.{VisitOrder}
use Rattle.fleet_verify.specs.LastVisits.{kept_at}

-- the number of a cell, which no other cell has
abbrev pub number_of : Cell → ℕ
number_of c = c.y * (MAX_COORDINATE + 1) + c.x

-- the cell with this number
abbrev pub numbered_cell : ℕ → Cell
numbered_cell n = record { x = n % (MAX_COORDINATE + 1); y = n / (MAX_COORDINATE + 1) }

-- the visits of the place
unfoldable pub visits_of : Place → List PlacedVisit → List Visit
visits_of q stays = map (λ s. s.visit) (filter (λ s. is_same_place (place_of s.cell) q) stays)

-- no neighbours in the list break the rule, or these are the first that do
abbrev pub IsListJudged : (Visit → Visit → Type 0) → List Visit → Option OrderViolation → Type 0
IsListJudged R l None = Adjacent R l
IsListJudged R l (Some b) = IsFirstBreak R l b.first b.second

-- v is in the list, and w right after it
pub record AreConsecutive (l : List Visit) (v w : Visit) : Type 0 where
  pub at : ℕ
  pub here : slice_get l at ≡ Some v
  pub next : slice_get l (at + 1) ≡ Some w

-- v stands before w in the list
pub record StandsBefore (l : List Visit) (v w : Visit) : Type 0 where
  pub sooner : ℕ
  pub later : ℕ
  pub order : sooner < later
  pub first : slice_get l sooner ≡ Some v
  pub second : slice_get l later ≡ Some w

-- which pairs are open once a visit comes after the last one of its cell: the same if it may come after that one, and
-- else these two more
abbrev pub IsOpenNext : (Visit → Visit → Type 0) → Option Visit → PlacedVisit → List OpenPair → List OpenPair → Type 0
IsOpenNext R last s old new =
    (((v : Visit) → last ≡ Some v → R v s.visit) × (new ≡ old))
    ⊎ ((v : Visit) × (last ≡ Some v) × (R v s.visit → ⊥) × (new ≡ old ++ record { cell = s.cell; first = v; second = s.visit } ∷ []))

-- the visit is kept as the last one of its cell, and the pairs are those that are open then
pub record IsVisitKept (R : Visit → Visit → Type 0) (s : PlacedVisit) (old new : Cell → Option Visit) (o os : List OpenPair) : Type 0 where
  pub here : new s.cell ≡ Some s.visit
  pub others : (c : Cell) → IsCell c → c ≢ s.cell → new c ≡ old c
  pub pairs : IsOpenNext R (old s.cell) s o os

-- the placed visits are all visits, and those of each place are sorted by level, agent and position
pub record AreAllPlaced (p : Program) (placed : List PlacedVisit) : Type 0 where
  pub level : ActionId → ℕ
  pub levels : AreLevels p level
  pub visits : All (λ s. IsVisit p s.visit) placed
  pub all : (v : Visit) → IsVisit p v → Contains (map (λ s. s.visit) placed) v
  pub in_order : AllPairs (λ s u. IsBefore level s.visit u.visit) placed
  pub sorted : (q : Place) → IsSortedListing p level q (visits_of q placed)

-- the last visit of the list, if it has one
abbrev pub IsLastVisit : List Visit → Option Visit → Type 0
IsLastVisit l None = l ≡ []
IsLastVisit l (Some v) = (xs : List Visit) × (l ≡ xs ++ v ∷ [])

-- the last visit of the cell among those so far; of its neighbouring visits each second one awaits that the first is
-- left, or they are open
pub record IsGrouped (p : Program) (c : Cell) (placed : List PlacedVisit) (final : Option Visit) (pairs : List OpenPair) : Type 0 where
  pub last : IsLastVisit (visits_of (place_of c) placed) final
  pub next : (v w : Visit) → AreConsecutive (visits_of (place_of c) placed) v w
      → ComesAfterByAwait p v w ⊎ Contains pairs (record { cell = c; first = v; second = w })

-- neighbouring visits of a cell, of which the second does not await that the first is left
pub record IsOpenPair (p : Program) (placed : List PlacedVisit) (o : OpenPair) : Type 0 where
  pub cell : IsCell o.cell
  pub neighbours : AreConsecutive (visits_of (place_of o.cell) placed) o.first o.second
  pub breaks : ComesAfterByAwait p o.first o.second → ⊥

-- the visits of each cell are grouped so, with this last one; the open pairs stand in the order of their second visits
pub record AreGroupedBy (p : Program) (placed : List PlacedVisit) (last : Cell → Option Visit) (pairs : List OpenPair) : Type 0 where
  pub cells : (c : Cell) → IsCell c → IsGrouped p c placed (last c) pairs
  pub each : All (IsOpenPair p placed) pairs
  pub in_order : AllPairs (λ o u. StandsBefore (map (λ s. s.visit) placed) o.second u.second) pairs

-- the visits of each cell are grouped so, with the last one that is kept
abbrev pub AreGrouped : Program → List PlacedVisit → VisitOrder → Type 0
AreGrouped p placed order = AreGroupedBy p placed (kept_at order.last) order.pairs.items

-- each cell's first neighbours that break the rule
abbrev pub AreViolations : Program → List PlacedVisit → (Cell → Option OrderViolation) → Type 0
AreViolations p placed found = (c : Cell) → IsCell c → IsListJudged (ComesAfter p) (visits_of (place_of c) placed) (found c)

-- the visit's agent is on this cell then
pub record IsVisitPlaced (p : Program) (s : PlacedVisit) : Type 0 where
  pub cell : IsCell s.cell
  pub here : place_of s.cell ≡ path p s.visit.agent s.visit.position

-- those of the agents' positions that begin a visit
abbrev pub entries : Program → List Visit → List Visit
entries p positions = filter (λ v. is_entry p v.agent v.position) positions

-- the visits that begin with one of these positions are grouped in this order
pub record AreAddedBy (p : Program) (positions : List Visit) (last : Cell → Option Visit) (pairs : List OpenPair) : Type 0 where
  pub placed : List PlacedVisit
  pub same : map (λ s. s.visit) placed ≡ entries p positions
  pub each : All (IsVisitPlaced p) placed
  pub grouped : AreGroupedBy p placed last pairs

-- the visits that begin with one of these positions were added, in this order
abbrev pub AreAdded : Program → List Visit → VisitOrder → Type 0
AreAdded p positions order = AreAddedBy p positions (kept_at order.last) order.pairs.items

-- all visits were added, those of each place sorted
pub record AreAllAdded (p : Program) (order : VisitOrder) : Type 0 where
  pub placed : List PlacedVisit
  pub all : AreAllPlaced p placed
  pub each : All (IsVisitPlaced p) placed
  pub grouped : AreGrouped p placed order

-- of some order of all visits, those of each place sorted, each cell's first neighbours that break the rule
pub record AreAllViolations (p : Program) (found : Cell → Option OrderViolation) : Type 0 where
  pub placed : List PlacedVisit
  pub all : AreAllPlaced p placed
  pub each : All (IsVisitPlaced p) placed
  pub violations : AreViolations p placed found

-- the visits of each place on the agent's path can be listed so that each comes after the one before
abbrev pub IsPathOrderly : (Program → Visit → Visit → Type 0) → Program → ℕ → Type 0
IsPathOrderly After p i = (n : ℕ) → n ≤ moves p i → IsOrderlyAt After p (path p i n)
