-- How much longer a run takes than its plan, if agents follow one another.
use Rattle.fleet_adg.proofs.Words.{◌≡◌, ap, sym, subst, refl, ℕ, zero, suc, ◌+◌, ◌<◌, ◌≤◌, inl, inr, arith, Bool, true, List, [], ◌∷◌, ◌++◌, length, sum_by, cases_lt, sum_by-cons, Place, Task, ActionId, Deps, indices, Holds, ChainFrom, chain_first, Plan, steps, IsConflictFree, changes_in, compiled, cell_of, place_of-injective, add-one, ◌∙◌}
use Rattle.std.proofs.lemmas.List.Sums.{sum_by-append}
use Rattle.fleet_model.specs.Machine.{held_ticks, IsFinish}
use Rattle.fleet_model.specs.Chain.{IsLevel, IsLongestChain, unit_cost}
use Rattle.fleet_model.proofs.Chains.{ends_action}
use Rattle.fleet_adg.proofs.Basics.{indices_push}
use Rattle.fleet_adg.proofs.Moves.{changes_in-ne}
use Rattle.fleet_adg.proofs.Depth.{depth}
use Rattle.fleet_adg.proofs.Follow.{ahead, depth_of-lt, depth_of-ahead}
use Rattle.fleet_adg.proofs.RunPlan.{nowhere}
use Rattle.fleet_adg.proofs.Programs.{length-compiled}
use Rattle.fleet_adg.proofs.AsWritten.{IsChange, change_of, changing_is, one_step, needs_step, follows_needs, compiled_is}
use Rattle.fleet_verify.proofs.RunCounts.{finish_below, longest_exists}
use Rattle.fleet_plan.specs.Apart.{IsApart}
use Rattle.fleet_adg.specs.AsWritten.{IsTrain, AreTrainsWithin, changing}

-- ---- how long rows may be

-- who changes its cell is an agent of the plan
changes_below : (plan : Plan) (i x : ℕ) → changes_in plan i x ≡ true → i < length plan
changes_below plan i x c = elim (cases_lt i (length plan)) [
  | inl l ↦ l
  | inr l ↦ absurd (changes_in-ne plan i x c (nowhere plan i x l ∙ sym (nowhere plan i (suc x) l)))
]

first_below : (plan : Plan) (x i : ℕ) (train : List ℕ) → IsTrain plan x (i ∷ train) → i < length plan
first_below plan x i [] row = changes_below plan i x row
first_below plan x i (j ∷ train) row = row.0

pub alone : (plan : Plan) → IsApart plan → AreTrainsWithin plan (λ x. 1)
alone plan apart x [] row = omega arith
alone plan apart x (i ∷ []) row = omega arith
alone plan apart x (i ∷ j ∷ train) row = absurd (apart x i j row.0 (first_below plan x j train row.2) row.1)

module _ (passable : Place → Bool) (tasks : List Task) (plan : Plan) (free : IsConflictFree passable tasks plan) where
  as_deep : (x i : ℕ) (train : List ℕ) → IsTrain plan x (i ∷ train) → length (i ∷ train) ≤ suc (depth (ahead plan x) (length plan) i)
  as_deep x i [] row = omega arith
  as_deep x i (j ∷ train) row =
      let below = first_below plan x j train row.2 in
      let enters = (follows_needs passable tasks plan Deps.Last free x i j row.0 below row.1).0 in
      let there = ap (cell_of plan i) (sym (add-one x)) ∙ place_of-injective (cell_of plan i (x + 1)) (cell_of plan j x) row.1.same in
      omega (arith, as_deep x j train row.2, depth_of-ahead passable tasks plan free x i j row.0 below enters there)

  pub all_in_row : AreTrainsWithin plan (λ x. length plan)
  all_in_row x [] row = omega arith
  all_in_row x (i ∷ train) row = omega (arith, as_deep x i train row, depth_of-lt passable tasks plan free x i (first_below plan x i train row))

-- ---- how long chains are then

sum_next : (most : ℕ → ℕ) (t : ℕ) → sum_by most (indices (suc t)) ≡ sum_by most (indices t) + most t
sum_next most t =
    let e : sum_by most (indices (suc t)) ≡ sum_by most (indices t ++ t ∷ []) = ap (sum_by most) (indices_push t) in
    omega (arith, e, sum_by-append most (indices t) (t ∷ []), sum_by-cons most t [])

sum_mono : (most : ℕ → ℕ) (t u : ℕ) → t ≤ u → sum_by most (indices t) ≤ sum_by most (indices u)
sum_mono most t zero h = let e : t ≡ zero = omega arith in omega (arith, ap (λ v. sum_by most (indices v)) e)
sum_mono most t (suc u) h = elim (cases_lt u t) [
  | inl l ↦ let e : t ≡ suc u = omega arith in omega (arith, ap (λ v. sum_by most (indices v)) e)
  | inr l ↦ omega (arith, sum_mono most t u l, sum_next most u)
]

ones : (cs : List ActionId) → sum_by unit_cost cs ≡ length cs
ones [] = refl
ones (c ∷ cs) = omega (arith, sum_by-cons unit_cost c cs, ones cs)

module _ (plan : Plan) (deps : Deps) (most : ℕ → ℕ) (within : AreTrainsWithin plan most) where
  -- the actions of a chain that happen in one step are those of a row, the last of which is the first of the chain
  chain_in : (a : ActionId) (cs : List ActionId) (b : ActionId) (x y : ℕ) (train : List ℕ) → IsChange plan deps a x → IsChange plan deps b y → ChainFrom (compiled plan deps) a cs b → IsTrain plan x (a.agent ∷ train)
      → sum_by most (indices x) + (1 + length train) + length cs ≤ sum_by most (indices (suc y))
  chain_in a [] b x y train va vb h row =
      let e : x ≡ y = one_step plan deps b x y (subst (λ c. IsChange plan deps c x) h.1 va) vb in
      let s : sum_by most (indices (suc x)) ≡ sum_by most (indices (suc y)) = ap (λ t. sum_by most (indices (suc t))) e in
      omega (arith, s, sum_next most x, within x (a.agent ∷ train) row)
  chain_in a (c ∷ cs) b x y train va vb h row =
      let z = change_of plan deps c (chain_first (compiled plan deps) c cs b h.2) in
      let on = λ (train : List ℕ) (row : IsTrain plan z.0 (c.agent ∷ train)). chain_in c cs b z.0 y train z.1 vb h.2 row in
      elim (needs_step plan deps c a z.0 x z.1 va h.1) [
        | inl l ↦ omega (arith, sum_next most x, within x (a.agent ∷ train) row, sum_mono most (suc x) z.0 l, on [] z.1.is.changes)
        | inr s ↦
            let e : sum_by most (indices z.0) ≡ sum_by most (indices x) = ap (λ t. sum_by most (indices t)) (sym s.0) in
            omega (arith, e, on (a.agent ∷ train) (z.1.is.agent, s.1, subst (λ t. IsTrain plan t (a.agent ∷ train)) s.0 row))
      ]

  ends_in : (b : ActionId) (y n : ℕ) → IsChange plan deps b y → IsLevel (compiled plan deps) b n → n ≤ sum_by most (indices (suc y))
  ends_in b y n vb level =
      let r = level.some in
      let x = change_of plan deps r.0 (chain_first (compiled plan deps) r.0 r.1 b r.2) in
      omega (arith, r.3, ones (r.0 ∷ r.1), chain_in r.0 r.1 b x.0 y [] x.1 vb r.2 x.1.is.changes)

  pub level_in : (i x n : ℕ) → changes_in plan i x ≡ true → IsLevel (compiled plan deps) (changing plan i x) n → n ≤ sum_by most (indices (x + 1))
  level_in i x n c level =
      let act = ends_action (compiled plan deps) n (changing plan i x) level.some in
      let agent : i < length plan = omega (arith, act.agent, length-compiled plan deps) in
      let e : suc x ≡ x + 1 = omega arith in
      omega (arith, ap (λ t. sum_by most (indices t)) e, ends_in (changing plan i x) x n (changing_is plan deps i x agent c) level)

  pub longest_in : (l : ℕ) → IsLongestChain (compiled plan deps) l → l ≤ sum_by most (indices (steps plan))
  longest_in l long = elim long.some [
    | inl e ↦ omega arith
    | inr r ↦
        let act = ends_action (compiled plan deps) l r.0 r.1 in
        let y = change_of plan deps r.0 act in
        let x = change_of plan deps r.1.0 (chain_first (compiled plan deps) r.1.0 r.1.1 r.0 r.1.2) in
        omega (arith, r.1.3, ones (r.1.0 ∷ r.1.1), chain_in r.1.0 r.1.1 r.0 x.0 y.0 [] x.1 y.1 r.1.2 x.1.is.changes, sum_mono most (suc y.0) (steps plan) y.1.is.before)
  ]

  pub finish_in : (passable : Place → Bool) (tasks : List Task) → IsConflictFree passable tasks plan → (holds : Holds) (f : ℕ)
      → IsFinish (compiled plan deps) holds f → f ≤ sum_by most (indices (steps plan)) + held_ticks (compiled plan deps) holds f
  finish_in passable tasks free holds f fin =
      let ok = compiled_is plan deps passable tasks free in
      let l = longest_exists (compiled plan deps) ok.right.in_range ok.numbering.0 ok.numbering.1 in
      omega (arith, longest_in l.0 l.1, finish_below (compiled plan deps) holds ok.right.in_range l.0 f l.1 fin)
