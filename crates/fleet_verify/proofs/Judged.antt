-- The cells, one after another.
use Rattle.fleet_verify.proofs.Words.{◌≡◌, ◌≢◌, ℕ, suc, ◌+◌, ◌<◌, ◌≤◌, Bool, true, false, List, [], ◌∷◌, length, Option, Some, None, refl, ap, sym, ◌∙◌, subst, arith, inl, inr, ◌⊎◌, All, cases_eq, Cell, Place, Task, Visit, place_of, is_same_place, Program, moves, path, IsCell, IsVisitOf, Adjacent, ComesAfter, IsOrderly, IsVisit, is_same_place-true, IsIn, is_in, PlacedVisit, VerifyFault, Unordered, OrderViolation, visits_of, IsListJudged, IsVisitPlaced, IsPathOrderly, AreAllPlaced, AreViolations, IsFirstBreak, HasRanges, IsFault, IsSooner, IsOrderlyAt}
use Rattle.fleet_verify.specs.declared.fault.VerifyFault.TheVariants.{OutOfMemory}
use Rattle.fleet_verify.proofs.Listing.{levels_number}

-- the visits of the place come one after another
abbrev pub InTurn : Program → Place → Type 0
InTurn p q = IsOrderlyAt ComesAfter p q

-- so do those of the places of the agents before, and of the first positions of the next one
pub record AreJudged (p : Program) (agent n : ℕ) : Type 0 where
  pub before : (i m : ℕ) → i < agent → m ≤ moves p i → InTurn p (path p i m)
  pub here : (m : ℕ) → m < n → InTurn p (path p agent m)

pub judged_more : (p : Program) (agent n : ℕ) (c : Cell) → AreJudged p agent n → place_of c ≡ path p agent n → InTurn p (place_of c) → AreJudged p agent (n + 1)
judged_more p agent n c h e t = record {
  before = h.before;
  here = λ m l. elim (cases_eq m n) [ inl g ↦ subst (InTurn p) (e ∙ ap (path p agent) (sym g)) t | inr ne ↦ h.here m (omega arith) ];
}

pub judged_begins : (p : Program) (agent : ℕ) → ((i : ℕ) → i < agent → IsPathOrderly ComesAfter p i) → AreJudged p agent 0
judged_begins p agent h = record { before = λ i m k l. h i k m l; here = λ m k. absurd (omega arith) }

pub judged_path : (p : Program) (agent n : ℕ) → AreJudged p agent n → moves p agent < n → IsPathOrderly ComesAfter p agent
judged_path p agent n h l m k = h.here m (omega arith)

pub found_fault : (passable : Place → Bool) (tasks : List Task) (p : Program) (stays : List PlacedVisit) (agent n : ℕ) (c : Cell) → HasRanges passable tasks p → AreAllPlaced p stays → agent < length p → n ≤ moves p agent
    → place_of c ≡ path p agent n → AreJudged p agent n → (v w : Visit) → IsFirstBreak (ComesAfter p) (visits_of (place_of c) stays) v w → IsFault passable tasks p (Unordered c v w)
found_fault passable tasks p stays agent n c right all a m e h v w broken = (
  record { before = right; number = all.level; numbering = levels_number p all.level all.levels },
  record {
    earlier = earlier;
    level = all.level;
    levels = all.levels;
    sorted = visits_of (place_of c) stays;
    listing = all.sorted (place_of c);
    broken = broken;
  },
)
  where
    earlier : (u : Visit) → IsVisit p u → ((x : Visit) → IsVisitOf p (place_of c) x → IsSooner u x) → IsOrderlyAt ComesAfter p (path p u.agent u.position)
    earlier u is sooner = turn (sooner (record { agent = agent; position = begun.0 }) (record { agent = a; position = omega (arith, begun.1.within); entered = begun.1.entered; place = begun.1.place ∙ sym e }))
      where
        -- the visit that the agent is in then
        begun : (k : ℕ) × IsIn p agent n k
        begun = is_in p agent n m

        turn : IsSooner u (record { agent = agent; position = begun.0 }) → InTurn p (path p u.agent u.position)
        turn (inl l) = h.before u.agent u.position l is.position
        turn (inr (g, l)) = subst (λ (i : ℕ). InTurn p (path p i u.position)) (sym g) (h.here u.position (omega (arith, l, begun.1.within)))

pub all_in_turn : (p : Program) (stays : List PlacedVisit) (agent : ℕ) → AreAllPlaced p stays → ((i : ℕ) → i < agent → IsPathOrderly ComesAfter p i) → length p ≤ agent → IsOrderly ComesAfter p
all_in_turn p stays agent all h l q = go (visits_of q stays) refl
  where
    go : (vs : List Visit) → visits_of q stays ≡ vs → InTurn p q
    go [] e = (visits_of q stays, (all.sorted q).lists, subst (Adjacent (ComesAfter p)) (sym e) tt)
    go (v ∷ vs) e =
        let is : IsVisitOf p q v = subst (λ (xs : List Visit). All (IsVisitOf p q) xs) e ((all.sorted q).lists.only) 0 v (omega arith) in
        subst (InTurn p) is.place (h v.agent (omega (arith, is.agent)) v.position is.position)

-- the start of an agent
pub starts_on : (p : Program) (agent : ℕ) (c : Cell) → c ≡ Rattle.fleet_model.specs.Program.start_of p agent → place_of c ≡ path p agent 0
starts_on p agent c e = ap place_of e

pub judged_first : (p : Program) (agent : ℕ) (c : Cell) → AreJudged p agent 0 → c ≡ Rattle.fleet_model.specs.Program.start_of p agent → InTurn p (place_of c) → AreJudged p agent 1
judged_first p agent c h e t = subst (AreJudged p agent) (omega arith) (judged_more p agent 0 c h (starts_on p agent c e) t)

-- ---- by the breaks of the cells

pub unbroken : (p : Program) (stays : List PlacedVisit) (breaks : Cell → Option OrderViolation) → AreAllPlaced p stays → AreViolations p stays breaks → (c : Cell) → IsCell c → breaks c ≡ None → InTurn p (place_of c)
unbroken p stays breaks all h c cell e = (visits_of (place_of c) stays, (all.sorted (place_of c)).lists, subst (IsListJudged (ComesAfter p) (visits_of (place_of c) stays)) e (h c cell))

pub broken_fault : (passable : Place → Bool) (tasks : List Task) (p : Program) (stays : List PlacedVisit) (breaks : Cell → Option OrderViolation) → AreViolations p stays breaks → (agent n : ℕ) (c : Cell) → IsCell c → HasRanges passable tasks p → AreAllPlaced p stays → agent < length p → n ≤ moves p agent
    → place_of c ≡ path p agent n → AreJudged p agent n → (f : VerifyFault) → ((b : OrderViolation) × (breaks c ≡ Some b) × (f ≡ Unordered c b.first b.second)) → IsFault passable tasks p f
broken_fault passable tasks p stays breaks found agent n c cell right all a m e h f (b, is, told) =
    subst (IsFault passable tasks p) (sym told)
    (found_fault passable tasks p stays agent n c right all a m e h b.first b.second (subst (IsListJudged (ComesAfter p) (visits_of (place_of c) stays)) is (found c cell)))

-- .. which is not that memory lacks
pub broken_told : (c : Cell) (found : Option OrderViolation) (f : VerifyFault) → ((b : OrderViolation) × (found ≡ Some b) × (f ≡ Unordered c b.first b.second)) → f ≢ OutOfMemory
broken_told c found f (b, is, told) lacks = absurd cc

-- a place without visits, or a cell
pub some_cell : (p : Program) (q : Place) (stays : List PlacedVisit) → All (IsVisitPlaced p) stays → (visits_of q stays ≡ []) ⊎ ((c : Cell) × IsCell c × (place_of c ≡ q))
unfolding visits_of
some_cell p q [] h = inl refl
some_cell p q (s ∷ stays) h = go (is_same_place (place_of s.cell) q) refl (some_cell p q stays (λ k d l. h (suc k) d (omega arith)))
  where
    go : (b : Bool) → is_same_place (place_of s.cell) q ≡ b → (visits_of q stays ≡ []) ⊎ ((c : Cell) × IsCell c × (place_of c ≡ q)) → (visits_of q (s ∷ stays) ≡ []) ⊎ ((c : Cell) × IsCell c × (place_of c ≡ q))
    go true e rest = inr (s.cell, (h 0 s (omega arith)).cell, is_same_place-true (place_of s.cell) q e)
    go false e (inl none) = inl (rw e none)
    go false e (inr c) = inr c

pub none_broken : (p : Program) (stays : List PlacedVisit) (breaks : Cell → Option OrderViolation) → AreAllPlaced p stays → All (IsVisitPlaced p) stays → AreViolations p stays breaks → ((c : Cell) → breaks c ≡ None) → IsOrderly ComesAfter p
none_broken p stays breaks all each found none q = elim (some_cell p q stays each) [
  | inl e ↦ (visits_of q stays, (all.sorted q).lists, subst (Adjacent (ComesAfter p)) (sym e) tt)
  | inr (c, cell, here) ↦ subst (InTurn p) here (unbroken p stays breaks all found c cell (none c))
]
