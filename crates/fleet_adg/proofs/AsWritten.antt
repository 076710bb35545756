-- Plans in which nobody follows run as they are written.
use Rattle.fleet_adg.proofs.Words.{◌≡◌, ◌∙◌, ap, sym, subst, refl, ℕ, zero, suc, ◌+◌, ◌-◌, ◌*◌, ◌<◌, ◌≤◌, ◌⊎◌, inl, inr, arith, add-one, Bool, true, false, IsTrue, List, [], ◌∷◌, length, Contains, sum_by, mul-le-mul_right, cases_lt, cases_Bool, All-contains, sum_by-cons, Place, Deps, Await, ActionId, Task, place_of, Program, Holds, run, count_at, place_at, moves, path, IsAction, DirectlyNeeds, ChainFrom, ComesAfterByChain, IsAcceptedBy, place_of-injective, chain_first, Plan, IsConflictFree, motion_of, cell_of, last_cell, steps, changes_in, moves_by, entry_awaits, compiled, awaits_accepted}
use Rattle.fleet_model.specs.Machine.{is_held, held_ticks, IsFinish}
use Rattle.fleet_model.specs.Chain.{IsCriticalCost, IsLevel, IsLongestChain, unit_cost}
use Rattle.fleet_model.specs.Schedule.{Schedule, HasEndedBy, EndInTime, NeedsNoStalled}
use Rattle.fleet_model.specs.RunSchedule.{IsFinishedIn}
use Rattle.fleet_model.specs.Conflict.{HasFollowingConflict}
use Rattle.fleet_model.proofs.Chains.{chain_last, ends_action}
use Rattle.fleet_adg.proofs.Moves.{moves_by-yes, moves_by-no, moves_by-mono, move_once, changes_in-end, changes_in-ne, changes_in-from_ne, cell_of-end, only_one, move_at}
use Rattle.fleet_adg.proofs.Entry.{IsAwaitOf, entry-sound, entry-complete}
use Rattle.fleet_adg.proofs.Programs.{length-compiled, moves-compiled, goal_of-compiled, action_in-number, action_in-step, IsActionIn}
use Rattle.fleet_adg.proofs.Accepted.{compiled-accepted}
use Rattle.fleet_verify.proofs.Members.{same_action}
use Rattle.fleet_verify.proofs.RunCounts.{counts, readies, run_counts, run_place, grows, count_past, run_held, held_at_most, finish_below, longest_exists}
use Rattle.fleet_verify.proofs.Levels.{level_exists}
use Rattle.fleet_verify.proofs.Timed.{by_later, critical, ends_in_time}
use Rattle.fleet_verify.proofs.Finish.{count_within}
use Rattle.fleet_verify.proofs.RunsRight.{some_tick, tick_in_time}
use Rattle.fleet_plan.specs.Apart.{IsApart}
use Rattle.fleet_adg.specs.AsWritten.{changing}

times : (a b : ℕ) → (a + 1) * b ≡ a * b + b
times a b = omega arith

grown : (p : Program) (holds : Holds) (t u i : ℕ) → t ≤ u → count_at (run p holds t) i ≤ count_at (run p holds u) i
grown p holds t u i l = grows p (is_held holds) (readies p holds) (counts p holds) (run_counts p holds) t u i l

-- a tick holds a ready agent once
held_more : (p : Program) (holds : Holds) (u k : ℕ) → held_ticks p holds (u + k) ≤ held_ticks p holds u + k
held_more p holds u zero = let e : u + 0 ≡ u = omega arith in omega (arith, ap (held_ticks p holds) e)
held_more p holds u (suc k) =
    let e : u + suc k ≡ suc (u + k) = omega arith in
    let before = held_more p holds u k in
    elim ((run_held p holds).step (u + k)) [
      | inl s ↦ omega (arith, ap (held_ticks p holds) e, before, s)
      | inr s ↦ omega (arith, ap (held_ticks p holds) e, before, s.0)
    ]

same_await : (v w : Await) → v.agent ≡ w.agent → v.count ≡ w.count → v ≡ w
same_await v w ea ec = λ k. record { agent = ea k; count = ec k }

-- action a is the change of cell of its agent in step x
pub record IsChange (plan : Plan) (deps : Deps) (a : ActionId) (x : ℕ) : Type 0 where
  pub is : IsActionIn plan deps a.agent a.number x

pub change_of : (plan : Plan) (deps : Deps) (a : ActionId) → IsAction (compiled plan deps) a → (x : ℕ) × IsChange plan deps a x
change_of plan deps a act = let w = action_in-number plan deps a.agent a.number act.first act.last in (w.0, record { is = w.1 })

pub changing_is : (plan : Plan) (deps : Deps) (i x : ℕ) → i < length plan → changes_in plan i x ≡ true → IsChange plan deps (changing plan i x) x
changing_is plan deps i x agent c =
    let n : suc (moves_by plan i x) ≡ moves_by plan i (x + 1) = sym (moves_by-yes plan i x c) ∙ ap (moves_by plan i) (sym (add-one x)) in
    record { is = subst (λ n. IsActionIn plan deps i n x) n (action_in-step plan deps i x agent (changes_in-end plan i x c) c) }

pub is_changing : (plan : Plan) (deps : Deps) (a : ActionId) (x : ℕ) → IsChange plan deps a x → a ≡ changing plan a.agent x
is_changing plan deps a x w =
    same_action a (changing plan a.agent x) refl (w.is.number ∙ sym (moves_by-yes plan a.agent x w.is.changes) ∙ ap (moves_by plan a.agent) (sym (add-one x)))

-- the step of an action is one
pub one_step : (plan : Plan) (deps : Deps) (a : ActionId) (x y : ℕ) → IsChange plan deps a x → IsChange plan deps a y → x ≡ y
one_step plan deps a x y v w = move_once plan a.agent x y v.is.changes w.is.changes (omega (arith, v.is.number, w.is.number))

pub change_acts : (plan : Plan) (deps : Deps) (a : ActionId) (x : ℕ) → IsChange plan deps a x → IsAction (compiled plan deps) a
change_acts plan deps a x w = record {
  agent = omega (arith, w.is.agent, length-compiled plan deps);
  first = omega (arith, w.is.number);
  last = omega (arith, w.is.number, moves_by-yes plan a.agent x w.is.changes, moves_by-mono plan a.agent (suc x) (steps plan) w.is.before, moves-compiled plan deps a.agent w.is.agent);
}

pub each_is : (plan : Plan) (deps : Deps) (a : ActionId) → IsAction (compiled plan deps) a
    → (x : ℕ) × (x < steps plan) × IsTrue (changes_in plan a.agent x) × (a ≡ changing plan a.agent x)
each_is plan deps a act = let w = change_of plan deps a act in (w.0, w.1.is.before, w.1.is.changes, is_changing plan deps a w.0 w.1)

-- an action directly needs what happens in an earlier step, or in the same one, where it follows
pub needs_step : (plan : Plan) (deps : Deps) (a b : ActionId) (x y : ℕ) → IsChange plan deps a x → IsChange plan deps b y → DirectlyNeeds (compiled plan deps) a b
    → (y < x) ⊎ ((y ≡ x) × HasFollowingConflict (motion_of plan) x a.agent b.agent)
needs_step plan deps a b x y va vb (inl own) = elim (cases_lt y x) [
  | inl l ↦ inl l
  | inr l ↦ absurd (omega (arith, own.1, va.is.number, vb.is.number, ap (λ k. moves_by plan k x) own.0, moves_by-mono plan b.agent x y l))
]
needs_step plan deps a b x y va vb (inr c) =
    let w : Await = record { agent = b.agent; count = b.number } in
    let h = All-contains (IsAwaitOf plan a.agent x) (entry_awaits plan deps a.agent x) w (entry-sound plan deps a.agent x) (subst (λ zs. Contains zs w) va.is.awaits c) in
    let same : y ≡ h.step.0 = move_once plan b.agent y h.step.0 vb.is.changes h.step.2 (omega (arith, h.step.4, vb.is.number)) in
    elim (cases_lt h.step.0 x) [
      | inl l ↦ inl (omega (arith, same))
      | inr l ↦
          let e : h.step.0 ≡ x = omega (arith, h.step.1) in
          inr (
            same ∙ e,
            record {
              apart = λ e. h.other (sym e);
              same = ap (λ t. place_of (cell_of plan a.agent t)) (add-one x) ∙ ap place_of (sym h.step.3 ∙ ap (cell_of plan b.agent) e);
            },
          )
    ]

-- who follows directly needs that the other leaves
pub follows_needs : (passable : Place → Bool) (tasks : List Task) (plan : Plan) (deps : Deps) → IsConflictFree passable tasks plan → (x i j : ℕ) → i < length plan → j < length plan → HasFollowingConflict (motion_of plan) x i j
    → IsTrue (changes_in plan i x) × IsTrue (changes_in plan j x) × DirectlyNeeds (compiled plan deps) (changing plan i x) (changing plan j x)
follows_needs passable tasks plan deps free x i j hi hj f =
    let there : cell_of plan i (suc x) ≡ cell_of plan j x = ap (cell_of plan i) (sym (add-one x)) ∙ place_of-injective (cell_of plan i (x + 1)) (cell_of plan j x) f.same in
    let enters : changes_in plan i x ≡ true = changes_in-from_ne plan i x (λ e. f.apart (only_one passable tasks plan free x i j hi hj (e ∙ there))) in
    let leaves : changes_in plan j x ≡ true = changes_in-from_ne plan j x (λ e. f.apart (only_one passable tasks plan free (suc x) i j hi hj (there ∙ e))) in
    let w = entry-complete passable tasks plan free deps i x x j hi hj (λ e. f.apart (sym e)) (omega arith) (sym there) (λ u k l m n e. absurd (omega (arith, l, m))) in
    let h = All-contains (IsAwaitOf plan i x) (entry_awaits plan deps i x) w.0 (entry-sound plan deps i x) w.1 in
    let next : moves_by plan j (x + 1) ≡ suc (moves_by plan j x) = ap (moves_by plan j) (add-one x) ∙ moves_by-yes plan j x leaves in
    let by : moves_by plan w.0.agent h.step.0 ≡ moves_by plan j h.step.0 = ap (λ k. moves_by plan k h.step.0) w.2 in
    let same : w.0 ≡ record { agent = j; count = moves_by plan j (x + 1) } =
    same_await w.0 (record { agent = j; count = moves_by plan j (x + 1) }) w.2 (omega (arith, w.3, h.step.4, next, by, moves_by-mono plan j h.step.0 x h.step.1)) in
    (enters, leaves, inr (subst (λ ws. Contains ws (record { agent = j; count = moves_by plan j (x + 1) })) (sym (changing_is plan deps i x hi enters).is.awaits) (subst (Contains (entry_awaits plan deps i x)) same w.1)))

pub compiled_is : (plan : Plan) (deps : Deps) (passable : Place → Bool) (tasks : List Task) → IsConflictFree passable tasks plan → IsAcceptedBy ComesAfterByChain passable tasks (compiled plan deps)
compiled_is plan deps passable tasks free = awaits_accepted passable tasks (compiled plan deps) (compiled-accepted passable tasks plan free deps)

-- an agent whose cell does not change from time x on has made its moves by then
all_made : (plan : Plan) (i x u : ℕ) → ((y : ℕ) → x ≤ y → changes_in plan i y ≡ false) → x ≤ u → moves_by plan i u ≡ moves_by plan i x
all_made plan i x zero none l = ap (moves_by plan i) (let e : zero ≡ x = omega arith in e)
all_made plan i x (suc u) none l = elim (cases_lt x (suc u)) [
  | inl b ↦ moves_by-no plan i u (none u (omega arith)) ∙ all_made plan i x u none (omega arith)
  | inr b ↦ ap (moves_by plan i) (let e : suc u ≡ x = omega arith in e)
]

-- no cell is changed between equal cells
rests_in : (plan : Plan) (i x : ℕ) → cell_of plan i x ≡ cell_of plan i (suc x) → changes_in plan i x ≡ false
rests_in plan i x same = elim (cases_Bool (changes_in plan i x)) [
  | inl c ↦ absurd (changes_in-ne plan i x c same)
  | inr c ↦ c
]

module _ (plan : Plan) (deps : Deps) (apart : IsApart plan) where
  -- an action directly needs only what happens in an earlier step
  pub needs_earlier : (a b : ActionId) (x y : ℕ) → IsChange plan deps a x → IsChange plan deps b y → DirectlyNeeds (compiled plan deps) a b → y < x
  needs_earlier a b x y va vb need = elim (needs_step plan deps a b x y va vb need) [
    | inl l ↦ l
    | inr s ↦ absurd (apart x a.agent b.agent va.is.agent vb.is.agent s.1)
  ]

  -- so a chain that ends with an action of step x costs no more than x + 1 of the dearest actions
  pub chain_within : (cost : ActionId → ℕ) (most : ℕ) → ((a : ActionId) → IsAction (compiled plan deps) a → cost a ≤ most) → (a : ActionId) (cs : List ActionId) (b : ActionId) (x y : ℕ)
      → IsChange plan deps a x → IsChange plan deps b y → ChainFrom (compiled plan deps) a cs b → x * most + sum_by cost (a ∷ cs) ≤ (y + 1) * most
  chain_within cost most each a [] b x y va vb h =
      let e : x ≡ y = one_step plan deps b x y (subst (λ c. IsChange plan deps c x) h.1 va) vb in
      let s : sum_by cost (a ∷ []) ≡ cost a + 0 = sum_by-cons cost a [] in
      let t : x * most ≡ y * most = ap (λ z. z * most) e in
      let u : (y + 1) * most ≡ y * most + most = times y most in
      omega (arith, s, t, u, each a h.0)
  chain_within cost most each a (c ∷ cs) b x y va vb h =
      let z = change_of plan deps c (chain_first (compiled plan deps) c cs b h.2) in
      let l : x < z.0 = needs_earlier c a z.0 x z.1 va h.1 in
      let before = chain_within cost most each c cs b z.0 y z.1 vb h.2 in
      let s : sum_by cost (a ∷ c ∷ cs) ≡ cost a + sum_by cost (c ∷ cs) = sum_by-cons cost a (c ∷ cs) in
      let u : (x + 1) * most ≡ x * most + most = times x most in
      let m : (x + 1) * most ≤ z.0 * most = mul-le-mul_right most (omega (arith, l)) in
      omega (arith, s, u, m, before, each a h.0)

  pub critical_within : (cost : ActionId → ℕ) (most : ℕ) → ((a : ActionId) → IsAction (compiled plan deps) a → cost a ≤ most) → (b : ActionId) (y m : ℕ)
      → IsChange plan deps b y → IsCriticalCost (compiled plan deps) cost b m → m ≤ (y + 1) * most
  critical_within cost most each b y m vb c =
      let r = c.some in
      let z = change_of plan deps r.0 (chain_first (compiled plan deps) r.0 r.1 b r.2) in
      omega (arith, r.3, chain_within cost most each r.0 r.1 b z.0 y z.1 vb r.2)

  pub cost_within : (cost : ActionId → ℕ) (most : ℕ) → ((a : ActionId) → IsAction (compiled plan deps) a → cost a ≤ most) → (i x m : ℕ) → changes_in plan i x ≡ true
      → IsCriticalCost (compiled plan deps) cost (changing plan i x) m → m ≤ (x + 1) * most
  cost_within cost most each i x m c critical =
      let act = chain_last (compiled plan deps) critical.some.0 critical.some.1 (changing plan i x) critical.some.2 in
      let agent : i < length plan = omega (arith, act.agent, length-compiled plan deps) in
      critical_within cost most each (changing plan i x) x m (changing_is plan deps i x agent c) critical

  pub level_within : (i x n : ℕ) → changes_in plan i x ≡ true → IsLevel (compiled plan deps) (changing plan i x) n → n ≤ x + 1
  level_within i x n c level = omega (arith, cost_within unit_cost 1 (λ a act. omega arith) i x n c level)

  pub longest_within : (l : ℕ) → IsLongestChain (compiled plan deps) l → l ≤ steps plan
  longest_within l long = elim long.some [
    | inl e ↦ omega arith
    | inr r ↦
        let act = ends_action (compiled plan deps) l r.0 r.1 in
        let z = change_of plan deps r.0 act in
        let e = chain_first (compiled plan deps) r.1.0 r.1.1 r.0 r.1.2 in
        let y = change_of plan deps r.1.0 e in
        omega (arith, r.1.3, z.1.is.before, chain_within unit_cost 1 (λ a act. omega arith) r.1.0 r.1.1 r.0 y.0 z.0 y.1 z.1 r.1.2)
  ]

  module _ (passable : Place → Bool) (tasks : List Task) (free : IsConflictFree passable tasks plan) where
    accepted : IsAcceptedBy ComesAfterByChain passable tasks (compiled plan deps)
    accepted = compiled_is plan deps passable tasks free

    pub in_time : (holds : Holds) (i x t : ℕ) → changes_in plan i x ≡ true → IsFinishedIn (compiled plan deps) holds t (changing plan i x)
        → t ≤ x + held_ticks (compiled plan deps) holds t
    in_time holds i x t c f = elim (cases_lt i (length plan)) [
      | inl agent ↦
          let act = change_acts plan deps (changing plan i x) x (changing_is plan deps i x agent c) in
          let n = level_exists (compiled plan deps) accepted.right.in_range accepted.numbering.0 accepted.numbering.1 (changing plan i x) act in
          omega (arith, (tick_in_time (compiled plan deps) accepted.right.in_range holds (changing plan i x) n.0 t n.1 f).1, level_within i x n.0 c n.1)
      | inr none ↦
          absurd (f.not_before (omega (arith, f.after, count_past (compiled plan deps) holds (t + 1) i (omega (arith, none, length-compiled plan deps)))))
    ]

    -- at so much a step each action ends in its step of the plan
    pub ends_within : (s : Schedule) (stalls : ActionId → Bool) (cost : ActionId → ℕ) (most : ℕ) → ((a : ActionId) → IsAction (compiled plan deps) a → cost a ≤ most)
        → EndInTime (compiled plan deps) s stalls cost → (i x : ℕ) → i < length plan → changes_in plan i x ≡ true
        → NeedsNoStalled (compiled plan deps) stalls (changing plan i x) → HasEndedBy s ((x + 1) * most) (changing plan i x)
    ends_within s stalls cost most each in_time i x agent c free_of =
        let a = changing plan i x in
        let act = change_acts plan deps a x (changing_is plan deps i x agent c) in
        let m = critical (compiled plan deps) cost accepted.right.in_range accepted.numbering.0 accepted.numbering.1 a act in
        by_later (s.ends a) m.0 ((x + 1) * most) (cost_within cost most each i x m.0 c m.1)
        (ends_in_time (compiled plan deps) cost accepted.right.in_range accepted.numbering.0 accepted.numbering.1 s stalls in_time a m.0 act free_of m.1)

    pub finish_within : (holds : Holds) (f : ℕ) → IsFinish (compiled plan deps) holds f → f ≤ steps plan + held_ticks (compiled plan deps) holds f
    finish_within holds f fin =
        let l = longest_exists (compiled plan deps) accepted.right.in_range accepted.numbering.0 accepted.numbering.1 in
        omega (arith, longest_within l.0 l.1, finish_below (compiled plan deps) holds accepted.right.in_range l.0 f l.1 fin)

    -- after u ticks, of which some held a ready agent, all moves of the plan are made up to the time that is left without these
    pub made_by : (holds : Holds) (i u : ℕ) → i < length plan → moves_by plan i (u - held_ticks (compiled plan deps) holds u) ≤ count_at (run (compiled plan deps) holds u) i
    made_by holds i u agent = go (moves_by plan i (u - held_ticks (compiled plan deps) holds u)) refl
      where
        go : (n : ℕ) → moves_by plan i (u - held_ticks (compiled plan deps) holds u) ≡ n → n ≤ count_at (run (compiled plan deps) holds u) i
        go zero e = omega arith
        go (suc n) e =
            let x = move_at plan i (u - held_ticks (compiled plan deps) holds u) n (omega (arith, e)) in
            let a = changing plan i x.0 in
            let act = change_acts plan deps a x.0 (changing_is plan deps i x.0 agent x.1.changes) in
            let t = some_tick passable tasks (compiled plan deps) accepted holds a act in
            let number : moves_by plan i (x.0 + 1) ≡ suc n = ap (moves_by plan i) (add-one x.0) ∙ moves_by-yes plan i x.0 x.1.changes ∙ ap suc x.1.number in
            elim (cases_lt t.0 u) [
              | inl l ↦ omega (arith, number, t.1.after, grown (compiled plan deps) holds (t.0 + 1) u i (omega (arith, l)))
              | inr late ↦
                  let z : u + (t.0 - u) ≡ t.0 = omega (arith, late) in
                  let more = subst (λ v. held_ticks (compiled plan deps) holds v ≤ held_ticks (compiled plan deps) holds u + (t.0 - u)) z (held_more (compiled plan deps) holds u (t.0 - u)) in
                  absurd (omega (arith, late, more, x.1.before, in_time holds i x.0 t.0 x.1.changes t.1))
            ]

    pub as_written : (i t : ℕ) → i < length plan → moves_by plan i t ≤ count_at (run (compiled plan deps) [] t) i
    as_written i t agent =
        let z : t - held_ticks (compiled plan deps) [] t ≡ t = omega (arith, held_at_most (compiled plan deps) [] t) in
        subst (λ u. moves_by plan i u ≤ count_at (run (compiled plan deps) [] t) i) z (made_by [] i t agent)

    -- an agent that the plan has on its goal from time x on is there in the run, later by no more than the ticks in which
    -- a ready agent was held
    pub on_goal : (holds : Holds) (i x t : ℕ) → i < length plan → ((y : ℕ) → x ≤ y → cell_of plan i y ≡ last_cell plan i) → x + held_ticks (compiled plan deps) holds t ≤ t
        → place_at (run (compiled plan deps) holds t) i ≡ place_of (last_cell plan i)
    on_goal holds i x t agent rests l =
        let within : i < length (compiled plan deps) = omega (arith, agent, length-compiled plan deps) in
        let none : (y : ℕ) → x ≤ y → changes_in plan i y ≡ false = λ y m. rests_in plan i y (rests y m ∙ sym (rests (suc y) (omega (arith, m)))) in
        let u : ℕ = t - held_ticks (compiled plan deps) holds t in
        let late : x ≤ u = omega (arith, l) in
        let most : moves_by plan i (steps plan) ≤ moves_by plan i u = elim (cases_lt u (steps plan)) [
          | inl b ↦ omega (arith, all_made plan i x (steps plan) none (omega (arith, late, b)), all_made plan i x u none late)
          | inr b ↦ moves_by-mono plan i (steps plan) u b
        ] in
        let all : count_at (run (compiled plan deps) holds t) i ≡ moves (compiled plan deps) i =
        omega (arith, count_within (compiled plan deps) holds t i, made_by holds i t agent, most, moves-compiled plan deps i agent) in
        run_place (compiled plan deps) holds t i within ∙ ap (path (compiled plan deps) i) all ∙ accepted.right.arrives i within
        ∙ ap place_of (goal_of-compiled plan deps i agent ∙ cell_of-end plan i (steps plan) (omega arith))
