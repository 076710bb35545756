-- A cell is left for a neighbour, in each safe interval there.
use Rattle.fleet_search.proofs.Words.{ℕ, ◌+◌, ◌-◌, ◌<◌, ◌≤◌, length, inl, inr, sym, subst, arith, cases_eq, cases_lt, Cell, Query, Exploration, Expansion, occupancy_at, AreBegun, occupancies_on, IsMeasured, IsExpansion, IsFoundIn, IsFoundFrom, Finds}
use Rattle.fleet_search.proofs.IntervalLaws.{occupancies-apart, apart-from, some_gap}
use Rattle.fleet_search.proofs.SearchSteps.{found_already, ExpandsOn-then, found_in-stays}

abbrev pub IsTurning : Query → ℕ → Expansion → Cell → ℕ → (start now : Exploration) → Type 0
IsTurning q f l c interval start now = Finds q f l (λ nodes. (k : ℕ) → k < interval → IsFoundIn q l.state c k nodes) start now

-- no move leads to a safe interval before the first
pub turning-begin : (q : Query) (f : ℕ) (l : Expansion) (c : Cell) (first : ℕ) (now : Exploration) → IsExpansion q f l now → AreBegun (occupancies_on q c) (l.state.time + 1) first → IsTurning q f l c first now now
turning-begin q f l c first now w b = found_already _ _ _ _ _ w (λ k h u move g in_time.
    let bound = b.bound in
    let begun = b.begun k h in
    let come = g.to_come k (omega arith) (omega arith) in
    let waits = move.waits in
    absurd (omega arith))

pub turning-more : (q : Query) (f : ℕ) (l : Expansion) (c : Cell) (interval : ℕ) (start now next : Exploration) → IsTurning q f l c interval start now → Finds q f l (IsFoundIn q l.state c interval) now next → IsTurning q f l c (interval + 1) start next
turning-more q f l c interval start now next h more = record {
  expands_on = ExpandsOn-then q f l start now next h.expands_on more.expands_on;
  found = λ k l'. elim (cases_eq k interval) [
    | inl e ↦ subst (λ z. IsFoundIn q l.state c z next.nodes) (sym e) more.found
    | inr ne ↦ found_in-stays q now.nodes next.nodes more.expands_on.grows.more more.expands_on.grows.kept l.state c k (h.found k (omega arith))
  ];
}

-- a safe interval after them begins too late
pub turned : (q : Query) → IsMeasured q → (f : ℕ) (l : Expansion) (c : Cell) (interval : ℕ) (start now : Exploration) → IsTurning q f l c interval start now → 0 < interval → ((i : ℕ) → interval ≤ i + 1 → i < length (occupancies_on q c) → l.until < (occupancy_at (occupancies_on q c) i).from) → Finds q f l (IsFoundFrom q l.state c) start now
turned q m f l c interval start now h one later = record {
  expands_on = h.expands_on;
  found = λ u move in_time.
      let horizon = h.expands_on.leaving.horizon in
      let g = some_gap q.reserved.now c (occupancies_on q c) (m.occupancies c) (u + 1) (omega arith) move.step.fits.vertex in
      elim (cases_lt g.0 interval) [
        | inl k ↦ h.found g.0 k u move g.1 in_time
        | inr k ↦
            let before = h.expands_on.leaving.until.1 u (omega arith) move.free in
            let bound = g.1.bound in
            let over = (g.1.over (g.0 - 1) (omega arith)).0 in
            let to_come = later (g.0 - 1) (omega arith) (omega arith) in
            let some = (occupancies-apart q.reserved.now c (occupancies_on q c) (m.occupancies c)).some_time (g.0 - 1) (omega arith) in
            absurd (omega arith)
      ];
}

-- if one occupancy begins too late, so do those after it
pub all_later : (q : Query) → IsMeasured q → (c : Cell) (until n : ℕ) → n < length (occupancies_on q c) → until < (occupancy_at (occupancies_on q c) n).from → (i : ℕ) → n ≤ i → i < length (occupancies_on q c) → until < (occupancy_at (occupancies_on q c) i).from
all_later q m c until n within late i h l = let z = apart-from (occupancies_on q c) (occupancies-apart q.reserved.now c (occupancies_on q c) (m.occupancies c)) n i h l in omega arith
