-- The agents that make room for one another in a step, followed one by one.
use Rattle.fleet_search.proofs.Words.{◌≡◌, ◌≢◌, ℕ, ◌+◌, ◌<◌, ◌≤◌, ◌⊎◌, Bool, true, false, IsTrue, ◌==◌, List, [], ◌∷◌, ◌++◌, length, get_or, ◌↔◌, inl, inr, sym, ap, ◌∙◌, subst, arith, list_any, Option, None, Some, is_some, not, IfNone, IfSome, cases_eq, eqb-true, or_cases, get_or_read, length-le_from_distinct_below, Cell, place_of, is_same_cell, is_same_cell-true, is_same_cell-false, Plan, cell_at, cell_of, FitTogether, Follow, StepFits, StandsOn, IsUnoccupied, LeadsBack}
use Rattle.fleet_search.proofs.Steps.{shortened, Follow-append}
use Rattle.fleet_search.proofs.OneByOne.{one_by_one}

-- one agent on a cell
pub only_one : (plan : Plan) → FitTogether plan → (t : ℕ) (c : Cell) (i j : ℕ) → StandsOn plan t c i → StandsOn plan t c j → i ≡ j
only_one plan fit t c i j a b = elim (cases_eq i j) [
  | inl e ↦ e
  | inr ne ↦ absurd ((one_by_one plan fit).vertex t i j a.agent b.agent (record { apart = ne; same = ap place_of (a.on ∙ sym b.on) }))
]

-- followers with none twice are at most all agents
Follow-below : (plan : Plan) (t : ℕ) (c : Cell) (js : List ℕ) (d : Cell) → Follow plan t c js d → (q : ℕ) → list_any (◌==◌ q) js ≡ true → q < length plan
Follow-below plan t c [] d f q h = cc
Follow-below plan t c (j ∷ js) d f q h = elim (or_cases (q == j) (list_any (◌==◌ q) js) h) [
  | inl e ↦ subst (λ z. z < length plan) (sym (eqb-true q j e)) f.0
  | inr r ↦ Follow-below plan t (cell_of plan j (t + 1)) js d f.3 q r
]

-- after i agents the cell is reached, and each way back goes on from there
pub record IsChase (plan : Plan) (t : ℕ) (from to : Cell) (i : ℕ) (cell : Cell) : Type 0 where
  pub led : (js : List ℕ) × Follow plan t to js cell
  pub rest : (ks : List ℕ) → Follow plan t to ks from → (js : List ℕ) × Follow plan t cell js from × (length ks ≡ i + length js)

module _ (plan : Plan) (fit : FitTogether plan) (t : ℕ) (from to : Cell) (i : ℕ) (cell : Cell) (ch : IsChase plan t from to i cell) where
  pub chase-more : (a : ℕ) (entered : Cell) → StandsOn plan t cell a → entered ≡ cell_of plan a (t + 1) → cell ≢ from → entered ≢ cell → IsChase plan t from to (i + 1) entered
  chase-more a entered on e ne moved = record {
    led = (
      ch.led.0 ++ a ∷ [],
      Follow-append plan t to ch.led.0 cell (a ∷ []) entered ch.led.1 (on.agent, on.on, λ z. moved (e ∙ z), sym e),
    );
    rest = λ ks f. go ks (ch.rest ks f);
  }
    where
      go : (ks : List ℕ) → (js : List ℕ) × Follow plan t cell js from × (length ks ≡ i + length js) → (js : List ℕ) × Follow plan t entered js from × (length ks ≡ i + 1 + length js)
      go ks ([], g, l) = absurd (ne g)
      go ks (j ∷ js, g, l) =
          let same : j ≡ a = only_one plan fit t cell j a (record { agent = g.0; on = g.1 }) on in
          (js, subst (λ z. Follow plan t z js from) (ap (λ z. cell_of plan z (t + 1)) same ∙ sym e) g.3, omega arith)

  pub chase-nobody : IsUnoccupied plan t cell → cell ≢ from → LeadsBack plan t from to → ⊥
  chase-nobody free ne back = go (ch.rest back.0 back.1)
    where
      go : (js : List ℕ) × Follow plan t cell js from × (length back.0 ≡ i + length js) → ⊥
      go ([], g, l) = ne g
      go (j ∷ js, g, l) = free j g.0 g.1

  pub chase-stays : (a : ℕ) → StandsOn plan t cell a → cell_of plan a (t + 1) ≡ cell → cell ≢ from → LeadsBack plan t from to → ⊥
  chase-stays a on stays ne back = go (ch.rest back.0 back.1)
    where
      go : (js : List ℕ) × Follow plan t cell js from × (length back.0 ≡ i + length js) → ⊥
      go ([], g, l) = ne g
      go (j ∷ js, g, l) =
          let same : j ≡ a = only_one plan fit t cell j a (record { agent = g.0; on = g.1 }) on in
          g.2 (ap (λ z. cell_of plan z (t + 1)) same ∙ stays)

  pub chase-all : length plan ≤ i → LeadsBack plan t from to → cell ≡ from
  chase-all h back =
      let s = shortened plan t to back.0 from back.1 in
      let few = length-le_from_distinct_below s.0 (length plan) s.2 (Follow-below plan t to s.0 from s.1) in
      go s.0 few (ch.rest s.0 s.1)
    where
      go : (ks : List ℕ) → length ks ≤ length plan → (js : List ℕ) × Follow plan t cell js from × (length ks ≡ i + length js) → cell ≡ from
      go ks few ([], g, l) = g
      go ks few (j ∷ js, g, l) = absurd (omega arith)

  pub chase-back : cell ≡ from → LeadsBack plan t from to
  chase-back e = (ch.led.0, subst (Follow plan t to ch.led.0) e ch.led.1)

-- ---- the test of a step

-- if somebody else enters the cell that is left, or nobody does
pub enters : (plan : Plan) (t : ℕ) (c : Cell) (js : List ℕ) (d : Cell) → c ≢ d → Follow plan t c js d → IsUnoccupied plan (t + 1) d → ⊥
enters plan t c [] d ne f free = ne f
enters plan t c (j ∷ []) d ne f free = free j f.0 f.3
enters plan t c (j ∷ k ∷ js) d ne f free = enters-on (cell_of plan j (t + 1)) (k ∷ js) f.3 (omega arith)
  where
    enters-on : (c : Cell) (js : List ℕ) → Follow plan t c js d → 1 ≤ length js → ⊥
    enters-on c [] f h = absurd (omega arith)
    enters-on c (j ∷ []) f h = free j f.0 f.3
    enters-on c (j ∷ k ∷ js) f h = enters-on (cell_of plan j (t + 1)) (k ∷ js) f.3 (omega arith)

-- an answer of no
pub none_iff : {P : Type 0} → (P → ⊥) → IsTrue false ↔ P
none_iff n = (λ h. cc, λ p. absurd (n p))

-- to which cell an agent leaves this one
pub goes_to : (paths plan : Plan) (a t : ℕ) (p : List Cell) (c d : Cell) → paths ≡ plan → StandsOn plan t c a → p ≡ get_or paths a p → d ≡ cell_at p (t + 1) → d ≡ cell_of plan a (t + 1)
unfolding cell_of
goes_to paths plan a t p c d e on g f = f ∙ ap (λ z. cell_at z (t + 1)) (get_or_read paths a p (subst (λ z. a < length z) (sym e) on.agent) g []) ∙ ap (λ z. cell_of z a (t + 1)) e

-- the whole test: nobody stands there at the end, and no ring is closed
pub step_ok-same : (plan : Plan) (t : ℕ) (from to : Cell) → IsUnoccupied plan (t + 1) to → from ≡ to → StepFits plan t from to
step_ok-same plan t from to free e = record { vertex = free; ring = λ ne. absurd (ne e) }

pub step_ok-alone : (plan : Plan) (t : ℕ) (from to : Cell) → IsUnoccupied plan (t + 1) to → IsUnoccupied plan (t + 1) from → StepFits plan t from to
step_ok-alone plan t from to free alone = record { vertex = free; ring = λ ne js f. enters plan t to js from (λ e. ne (sym e)) f alone }

pub of_none : {P : Type 0} (o : Option ℕ) (b : Bool) → b ≡ is_some o → b ≡ false → IfNone o P → P
of_none None b e f h = h
of_none (Some x) b e f h = absurd (cc)

pub of_none' : {P : Type 0} (o : Option ℕ) (b : Bool) → is_some o ≡ not b → b ≡ true → IfNone o P → P
of_none' None b e f h = h
of_none' (Some x) b e f h = absurd (let z : true ≡ false = e ∙ ap not f in cc)

pub of_some : {P : ℕ → Type 0} (o : Option ℕ) (b : Bool) → b ≡ is_some o → b ≡ true → IfSome o P → (x : ℕ) × P x
of_some None b e f h = absurd (cc)
of_some (Some x) b e f h = (x, h)

-- ---- cells that were compared, whichever stood first

pub same_cells : (a b : Cell) (r : Bool) → (r ≡ is_same_cell a b) ⊎ (r ≡ is_same_cell b a) → r ≡ true → a ≡ b
same_cells a b r o t = elim o [
  | inl e ↦ is_same_cell-true a b (sym e ∙ t)
  | inr e ↦ sym (is_same_cell-true b a (sym e ∙ t))
]

pub other_cells : (a b : Cell) (r : Bool) → (r ≡ is_same_cell a b) ⊎ (r ≡ is_same_cell b a) → r ≡ false → a ≢ b
other_cells a b r o f = λ s. elim o [
  | inl e ↦ is_same_cell-false a b (sym e ∙ f) s
  | inr e ↦ is_same_cell-false b a (sym e ∙ f) (sym s)
]
