-- Orders that are tried one after another, and the best of their plans.
use Rattle.fleet_search.proofs.Words.{◌≡◌, ℕ, zero, suc, ◌+◌, ◌-◌, ◌<◌, ◌≤◌, Bool, List, [], ◌∷◌, ◌++◌, length, take, get_or, Option, Some, None, ◌⊎◌, inl, inr, refl, sym, ap, ◌∙◌, subst, arith, true, false, not, is_some, slice_get, cases_lt, length_push, slice_get_within, indices, Place, Task, Plan, IfSome, IfNone, take_more, take-take, get_or-take, length-take, is_passable, Cell, IsEarliest, IsPrioritisedPlan, tasks_by, IsOrderAfter, IsStuckInTries, IsOrderOf, AreReservedInOrder, IsMadeBefore, IsFor, outcome_of, IsTried, IsBestSoFar, Problem, Measured, Outcome, Planned, NoPathAt, order_after, order_after_all, IsOutcome, AreOutcomes, IsFirstLeast}
use Rattle.fleet_search.specs.declared.best.Tried.TheVariants as t
use Rattle.fleet_search.proofs.OrderLaws.{order_after-more}
use Rattle.fleet_search.proofs.TurnLaws.{first_after_none, stuck_in_turn}

-- ---- one outcome more

pub order_after_more : (order : List ℕ) (outcomes : List Outcome) (outcome : Outcome) → order_after_all order (outcomes ++ outcome ∷ []) ≡ order_after (order_after_all order outcomes) outcome
order_after_more order [] outcome = refl
order_after_more order (o ∷ outcomes) outcome = order_after_more (order_after order o) outcomes outcome

module _ (passable : Place → Bool) (tasks : List Task) (horizon : ℕ) (Measures : Plan → ℕ → Type 0) where
  pub outcomes_more : (order : List ℕ) (outcomes : List Outcome) (outcome : Outcome) → AreOutcomes passable tasks horizon Measures order outcomes → IsOutcome passable tasks horizon Measures (order_after_all order outcomes) outcome → AreOutcomes passable tasks horizon Measures order (outcomes ++ outcome ∷ [])
  outcomes_more order [] outcome came is = (is, tt)
  outcomes_more order (o ∷ outcomes) outcome came is = (came.0, outcomes_more (order_after order o) outcomes outcome came.1 is)

-- what stands in the longer list stands in the shorter one, or is the last
pub get_more : (outcomes : List Outcome) (outcome x : Outcome) (k : ℕ) → slice_get (outcomes ++ outcome ∷ []) k ≡ Some x → (slice_get outcomes k ≡ Some x) ⊎ ((k ≡ length outcomes) × (outcome ≡ x))
get_more [] outcome x zero e = inr (refl, cc)
get_more [] outcome x (suc k) e = absurd (cc)
get_more (o ∷ outcomes) outcome x zero e = inl e
get_more (o ∷ outcomes) outcome x (suc k) e = elim (get_more outcomes outcome x k e) [
  | inl here ↦ inl here
  | inr last ↦ inr (ap suc last.0, last.1)
]

pub get_kept : (outcomes : List Outcome) (outcome x : Outcome) (k : ℕ) → slice_get outcomes k ≡ Some x → slice_get (outcomes ++ outcome ∷ []) k ≡ Some x
get_kept [] outcome x k e = absurd (cc)
get_kept (o ∷ outcomes) outcome x zero e = e
get_kept (o ∷ outcomes) outcome x (suc k) e = get_kept outcomes outcome x k e

pub get_last : (outcomes : List Outcome) (outcome : Outcome) → slice_get (outcomes ++ outcome ∷ []) (length outcomes) ≡ Some outcome
get_last [] outcome = refl
get_last (o ∷ outcomes) outcome = get_last outcomes outcome

same_measure : (plan other : Plan) (m n : ℕ) → Planned plan m ≡ Planned other n → m ≡ n
same_measure plan other m n e = cc

-- ---- the first of the least

-- the first plan at all
pub least_first : (outcomes : List Outcome) (plan : Plan) (measure : ℕ) → ((k : ℕ) (other : Plan) (n : ℕ) → slice_get outcomes k ≡ Some (Planned other n) → ⊥) → IsFirstLeast (outcomes ++ Planned plan measure ∷ []) plan measure
least_first outcomes plan measure none = record {
  place = length outcomes;
  here = get_last outcomes (Planned plan measure);
  least = λ k other n e. elim (get_more outcomes (Planned plan measure) (Planned other n) k e) [
    | inl there ↦ absurd (none k other n there)
    | inr last ↦ let same = same_measure plan other measure n last.1 in omega arith
  ];
  first = λ k other n l e. elim (get_more outcomes (Planned plan measure) (Planned other n) k e) [
    | inl there ↦ absurd (none k other n there)
    | inr last ↦ let at = last.0 in absurd (omega arith)
  ];
}

-- one with a lesser measure
pub least_next : (outcomes : List Outcome) (old plan : Plan) (m measure : ℕ) → IsFirstLeast outcomes old m → measure < m → IsFirstLeast (outcomes ++ Planned plan measure ∷ []) plan measure
least_next outcomes old plan m measure best less = record {
  place = length outcomes;
  here = get_last outcomes (Planned plan measure);
  least = λ k other n e. elim (get_more outcomes (Planned plan measure) (Planned other n) k e) [
    | inl there ↦ let no_less = best.least k other n there in omega arith
    | inr last ↦ let same = same_measure plan other measure n last.1 in omega arith
  ];
  first = λ k other n l e. elim (get_more outcomes (Planned plan measure) (Planned other n) k e) [
    | inl there ↦ let no_less = best.least k other n there in omega arith
    | inr last ↦ let at = last.0 in absurd (omega arith)
  ];
}

-- an outcome that is no less leaves the best as it is
pub least_kept : (outcomes : List Outcome) (outcome : Outcome) (plan : Plan) (m : ℕ) → IsFirstLeast outcomes plan m → ((other : Plan) (n : ℕ) → outcome ≡ Planned other n → m ≤ n) → IsFirstLeast (outcomes ++ outcome ∷ []) plan m
least_kept outcomes outcome plan m best more = record {
  place = best.place;
  here = get_kept outcomes outcome (Planned plan m) best.place best.here;
  least = λ k other n e. elim (get_more outcomes outcome (Planned other n) k e) [
    | inl there ↦ best.least k other n there
    | inr last ↦ more other n last.1
  ];
  first = λ k other n l e. elim (get_more outcomes outcome (Planned other n) k e) [
    | inl there ↦ best.first k other n l there
    | inr last ↦ let at = last.0 in let within = slice_get_within outcomes best.place (Planned plan m) best.here in absurd (omega arith)
  ];
}

-- an order without a plan leaves none, if there was none
pub none_kept : (outcomes : List Outcome) (at : ℕ) → ((k : ℕ) (other : Plan) (n : ℕ) → slice_get outcomes k ≡ Some (Planned other n) → ⊥) → (k : ℕ) (other : Plan) (n : ℕ) → slice_get (outcomes ++ NoPathAt at ∷ []) k ≡ Some (Planned other n) → ⊥
none_kept outcomes at none k other n e = elim (get_more outcomes (NoPathAt at) (Planned other n) k e) [
  | inl there ↦ none k other n there
  | inr last ↦ let no = last.1 in absurd (cc)
]

-- ---- the paths of an order but the last

-- the first paths of those that were made one after another
pub made_front : (passable : Place → Bool) (tasks : List Task) (horizon n k : ℕ) (plan : Plan) → IsPrioritisedPlan passable tasks horizon n plan → k ≤ n → IsPrioritisedPlan passable tasks horizon k (take k plan)
made_front passable tasks horizon n k plan made few = record {
  agents = let long = made.agents in let short = length-take k plan in omega (arith, long, short);
  each = λ i task l t.
      let e = made.each i task (omega arith) t in
      subst (λ z. IsEarliest passable z task.start task.goal horizon (get_or (take k plan) i [])) (sym (take-take i k plan (omega arith)))
      (subst (λ z. IsEarliest passable (take i plan) task.start task.goal horizon z) (sym (get_or-take k plan i [] l)) e);
}

-- all paths but the last
pub but_last : (problem : Problem) (order : List ℕ) (paths kept : Plan) → AreReservedInOrder problem order paths true → kept ≡ take (length paths - 1) paths → IsMadeBefore problem order (length order - 1) kept
but_last problem order paths kept made is =
    let all : length paths ≡ length order = made.agents in
    rw (is, sym all) (made_front (is_passable problem.grid.now) (tasks_by order problem.instance.now) problem.horizon (length order) (length paths - 1) paths made (omega arith))

pub copied_more : (paths copy new : Plan) (i : ℕ) (path : List Cell) → i < length paths → copy ≡ take i paths → path ≡ get_or paths i path → new ≡ copy ++ path ∷ [] → new ≡ take (i + 1) paths
copied_more paths copy new i path l e is more = more ∙ ap (λ z. z ++ path ∷ []) e ∙ ap (λ z. take i paths ++ z ∷ []) is ∙ sym (take_more paths i path l)

-- ---- the best so far

pub so_far_none : (problem : Problem) (Measures : Plan → ℕ → Type 0) (order : List ℕ) → order ≡ indices (length problem.instance.now) → IsBestSoFar problem Measures order 0 None
so_far_none problem Measures order first = record {
  outcomes = [];
  all = refl;
  came = tt;
  next = first;
  is_best = (λ k plan n e. cc, first_after_none problem order first);
}

module _ (problem : Problem) (Measures : Plan → ℕ → Type 0) (order next : List ℕ) (tried : ℕ) where
  pub best_planned : (best : Option Measured) (m new : Measured) → IsBestSoFar problem Measures order tried best → IsTried problem Measures order next (t.Planned m) → IfNone best (new ≡ m) → IfSome best (λ e. e.measure ≤ m.measure → new ≡ e) → IfSome best (λ e. m.measure < e.measure → new ≡ m) → IsBestSoFar problem Measures next (tried + 1) (Some new)
  best_planned None m new so is none earlier later = record {
    outcomes = so.outcomes ++ outcome_of (t.Planned m) ∷ [];
    all = length_push so.outcomes (outcome_of (t.Planned m)) ∙ ap (λ z. z + 1) so.all;
    came = outcomes_more (is_passable problem.grid.now) problem.instance.now problem.horizon Measures (indices (length problem.instance.now)) so.outcomes (outcome_of (t.Planned m)) so.came
        (subst (λ z. IsOutcome (is_passable problem.grid.now) problem.instance.now problem.horizon Measures z (outcome_of (t.Planned m))) so.next is.outcome);
    next = is.next ∙ ap (λ z. order_after z (outcome_of (t.Planned m))) so.next ∙ sym (order_after_more (indices (length problem.instance.now)) so.outcomes (outcome_of (t.Planned m)));
    is_best = subst (λ (z : Measured). IsFirstLeast (so.outcomes ++ outcome_of (t.Planned m) ∷ []) z.checked.plan z.measure × IsFor problem z.checked) (sym none)
        (least_first so.outcomes m.checked.plan m.measure so.is_best.0, is.right);
  }
  best_planned (Some e) m new so is none earlier later = record {
    outcomes = so.outcomes ++ outcome_of (t.Planned m) ∷ [];
    all = length_push so.outcomes (outcome_of (t.Planned m)) ∙ ap (λ z. z + 1) so.all;
    came = outcomes_more (is_passable problem.grid.now) problem.instance.now problem.horizon Measures (indices (length problem.instance.now)) so.outcomes (outcome_of (t.Planned m)) so.came
        (subst (λ z. IsOutcome (is_passable problem.grid.now) problem.instance.now problem.horizon Measures z (outcome_of (t.Planned m))) so.next is.outcome);
    next = is.next ∙ ap (λ z. order_after z (outcome_of (t.Planned m))) so.next ∙ sym (order_after_more (indices (length problem.instance.now)) so.outcomes (outcome_of (t.Planned m)));
    is_best = elim (cases_lt m.measure e.measure) [
      | inl less ↦ subst (λ (z : Measured). IsFirstLeast (so.outcomes ++ outcome_of (t.Planned m) ∷ []) z.checked.plan z.measure × IsFor problem z.checked) (sym (later less))
          (least_next so.outcomes e.checked.plan m.checked.plan e.measure m.measure so.is_best.0 less, is.right)
      | inr more ↦ subst (λ (z : Measured). IsFirstLeast (so.outcomes ++ outcome_of (t.Planned m) ∷ []) z.checked.plan z.measure × IsFor problem z.checked) (sym (earlier more))
          (least_kept so.outcomes (outcome_of (t.Planned m)) e.checked.plan e.measure so.is_best.0 (λ other n same. let k = same_measure m.checked.plan other m.measure n same in omega arith), so.is_best.1)
    ];
  }

  pub best_stuck : (best : Option Measured) (place : ℕ) → IsBestSoFar problem Measures order tried best → IsTried problem Measures order next (t.NoPathAt place) → IsBestSoFar problem Measures next (tried + 1) best
  best_stuck None place so is = record {
    outcomes = so.outcomes ++ NoPathAt place ∷ [];
    all = length_push so.outcomes (NoPathAt place) ∙ ap (λ z. z + 1) so.all;
    came = outcomes_more (is_passable problem.grid.now) problem.instance.now problem.horizon Measures (indices (length problem.instance.now)) so.outcomes (NoPathAt place) so.came
        (subst (λ z. IsOutcome (is_passable problem.grid.now) problem.instance.now problem.horizon Measures z (NoPathAt place)) so.next is.outcome);
    next = is.next ∙ ap (λ z. order_after z (NoPathAt place)) so.next ∙ sym (order_after_more (indices (length problem.instance.now)) so.outcomes (NoPathAt place));
    is_best = (
      none_kept so.outcomes place so.is_best.0,
      subst (λ z. IsOrderAfter (is_passable problem.grid.now) problem.instance.now problem.horizon z next) (sym (length_push so.outcomes (NoPathAt place)))
          (order_after-more (is_passable problem.grid.now) problem.instance.now problem.horizon (length so.outcomes) place order next so.is_best.1 is.outcome is.next),
    );
  }
  best_stuck (Some e) place so is = record {
    outcomes = so.outcomes ++ NoPathAt place ∷ [];
    all = length_push so.outcomes (NoPathAt place) ∙ ap (λ z. z + 1) so.all;
    came = outcomes_more (is_passable problem.grid.now) problem.instance.now problem.horizon Measures (indices (length problem.instance.now)) so.outcomes (NoPathAt place) so.came
        (subst (λ z. IsOutcome (is_passable problem.grid.now) problem.instance.now problem.horizon Measures z (NoPathAt place)) so.next is.outcome);
    next = is.next ∙ ap (λ z. order_after z (NoPathAt place)) so.next ∙ sym (order_after_more (indices (length problem.instance.now)) so.outcomes (NoPathAt place));
    is_best = (least_kept so.outcomes (NoPathAt place) e.checked.plan e.measure so.is_best.0 (λ other n same. absurd (cc)), so.is_best.1);
  }

-- if there is no plan so far, and no order comes after this one, no order of so many makes one
pub stuck_at_last : (problem : Problem) (Measures : Plan → ℕ → Type 0) (order next : List ℕ) (tried tries : ℕ) (best : Option Measured) (place agent : ℕ) (none : Bool) → is_some best ≡ not none → none ≡ true → IsOrderOf problem order → IsBestSoFar problem Measures order tried best → IsTried problem Measures order next (t.NoPathAt place) → tried ≤ tries - 1 → (place ≡ 0) ⊎ (tries ≤ tried + 1) → agent ≡ get_or next 0 0 → IsStuckInTries (is_passable problem.grid.now) problem.instance.now problem.horizon tries agent
stuck_at_last problem Measures order next tried tries (Some e) place agent none test y each so is few last first = let bad : true ≡ false = test ∙ ap not y in absurd (cc)
stuck_at_last problem Measures order next tried tries None place agent none test y each so is few last first =
    let after = subst (λ z. IsOrderAfter (is_passable problem.grid.now) problem.instance.now problem.horizon z order) so.all so.is_best.1 in
    stuck_in_turn problem order next tries tried place agent each few after is.outcome is.next first last

-- what holds if there is no plan so far
pub if_none : (best : Option Measured) (P : Type 0) → P → IfNone best P
if_none None P h = h
if_none (Some e) P h = tt

pub if_some : (best : Option Measured) (P : Type 0) (none : Bool) → is_some best ≡ not none → none ≡ false → IfNone best P
if_some None P none test y = let bad : false ≡ true = test ∙ ap not y in absurd (cc)
if_some (Some e) P none test y = tt
