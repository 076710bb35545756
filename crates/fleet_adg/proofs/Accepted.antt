-- The program of a conflict-free plan is accepted.
use Rattle.fleet_adg.proofs.Words.{◌≡◌, ℕ, suc, ◌+◌, ◌-◌, ◌*◌, ◌<◌, ◌≤◌, Bool, true, IsTrue, List, length, get_or, Contains, ◌⊎◌, inl, inr, sym, ap, ◌∙◌, subst, arith, mul-le-mul_right, cases_lt, slice_get_within, All-contains, Place, Await, ActionId, Deps, place_of, path, IsNumbering, ComesAfterByAwait, Task, IsAcceptedBy, Plan, cell_of, steps, IsConflictFree, changes_in, changes, moves_by, entry_awaits, compiled}
use Rattle.fleet_adg.proofs.Moves.{cell_of-end, moves_by-mono, move_once, time_of_count}
use Rattle.fleet_adg.proofs.Depth.{depth}
use Rattle.fleet_adg.proofs.Follow.{ahead, depth_of-lt, depth_of-ahead}
use Rattle.fleet_adg.proofs.Entry.{IsAwaitOf, entry-sound}
use Rattle.fleet_adg.proofs.Programs.{length-compiled, start_of-compiled, goal_of-compiled, moves-compiled, action_in-number, awaits_cases, path-compiled}
use Rattle.fleet_adg.proofs.Limits.{count-le}
use Rattle.fleet_adg.proofs.Listing.{compiled-orderly}

-- ---- the numbering

-- by step, and within the step by depth
rank : ℕ → ℕ → ℕ → ℕ
rank n x d = x * (n + 1) + d + 1

rank-step : (n x y d e : ℕ) → y < x → e < n → rank n y e < rank n x d
unfolding rank
rank-step n x y d e l h = let m : suc y * (n + 1) ≤ x * (n + 1) = mul-le-mul_right (n + 1) l in omega arith

rank-depth : (n x d e : ℕ) → d ≡ suc e → rank n x e < rank n x d
unfolding rank
rank-depth n x d e h = omega arith

rank-positive : (n x d : ℕ) → 1 ≤ rank n x d
unfolding rank
rank-positive n x d = omega arith

action_step : Plan → ActionId → ℕ
action_step plan a = get_or (changes plan a.agent (steps plan)) (a.number - 1) 0

pub action_number : Plan → ActionId → ℕ
action_number plan a = rank (length plan) (action_step plan a) (depth (ahead plan (action_step plan a)) (length plan) a.agent)

action_number-at : (plan : Plan) (a : ActionId) (x : ℕ) → action_step plan a ≡ x → action_number plan a ≡ rank (length plan) x (depth (ahead plan x) (length plan) a.agent)
unfolding action_number
action_number-at plan a x e = ap (λ z. rank (length plan) z (depth (ahead plan z) (length plan) a.agent)) e

module _ (passable : Place → Bool) (tasks : List Task) (plan : Plan) (free : IsConflictFree passable tasks plan) (deps : Deps) where
  -- a move of another step, or that of the agent ahead in the same step
  number-lt : (a b : ActionId) (x y : ℕ) → action_step plan a ≡ x → action_step plan b ≡ y → a.agent < length plan → b.agent < length plan → (y < x) ⊎ ((y ≡ x) × (changes_in plan a.agent x ≡ true) × (cell_of plan a.agent (suc x) ≡ cell_of plan b.agent x)) → action_number plan b < action_number plan a
  number-lt a b x y ex ey ha hb (inl l) =
      omega (arith, action_number-at plan a x ex, action_number-at plan b y ey, rank-step (length plan) x y (depth (ahead plan x) (length plan) a.agent) (depth (ahead plan y) (length plan) b.agent) l (depth_of-lt passable tasks plan free y b.agent hb))
  number-lt a b x y ex ey ha hb (inr (e, c, there)) =
      omega (arith, action_number-at plan a x ex, action_number-at plan b x (ey ∙ e), rank-depth (length plan) x (depth (ahead plan x) (length plan) a.agent) (depth (ahead plan x) (length plan) b.agent) (depth_of-ahead passable tasks plan free x a.agent b.agent ha hb c there))

  pub numbering : IsNumbering (compiled plan deps) (action_number plan)
  unfolding action_step action_number
  numbering = record {
    positive = λ a h. rank-positive (length plan) (action_step plan a) (depth (ahead plan (action_step plan a)) (length plan) a.agent);
    rising = λ a b ha hb needs.
        let wa = action_in-number plan deps a.agent a.number ha.first ha.last in
        let wb = action_in-number plan deps b.agent b.number hb.first hb.last in
        number-lt a b wa.0 wb.0 (wa.2 0) (wb.2 0) wa.1.agent wb.1.agent (elim needs [
          | inl own ↦ inl (elim (cases_lt wb.0 wa.0) [
            | inl l ↦ l
            | inr l ↦ absurd (omega (arith, own.1, wa.1.number, wb.1.number, ap (λ k. moves_by plan k wa.0) own.0, moves_by-mono plan b.agent wa.0 wb.0 l))
          ])
          | inr c ↦
              let w : Await = record { agent = b.agent; count = b.number } in
              let h = All-contains (IsAwaitOf plan a.agent wa.0) (entry_awaits plan deps a.agent wa.0) w (entry-sound plan deps a.agent wa.0) (subst (λ zs. Contains zs w) wa.1.awaits c) in
              let same : wb.0 ≡ h.step.0 = move_once plan b.agent wb.0 h.step.0 wb.1.changes h.step.2 (omega (arith, h.step.4, wb.1.number)) in
              elim (cases_lt h.step.0 wa.0) [
                | inl l ↦ inl (omega (arith, same))
                | inr l ↦
                    let e : h.step.0 ≡ wa.0 = omega (arith, h.step.1) in
                    inr (same ∙ e, wa.1.changes, sym h.step.3 ∙ ap (cell_of plan b.agent) e)
              ]
        ]);
  }

  pub compiled-accepted : IsAcceptedBy ComesAfterByAwait passable tasks (compiled plan deps)
  compiled-accepted = record {
    right = record {
      for_tasks = record {
        agents = length-compiled plan deps ∙ free.agents;
        ends = λ i t e.
            let b : i < length plan = omega (arith, slice_get_within tasks i t e, free.agents) in
            let w = free.ends i t e in
            (start_of-compiled plan deps i b ∙ w.0, goal_of-compiled plan deps i b ∙ cell_of-end plan i (steps plan) (omega arith) ∙ w.1);
      };
      on_ground = λ i n l m.
          let b : i < length plan = omega (arith, length-compiled plan deps) in
          let w = time_of_count plan i (steps plan) n (omega (arith, moves-compiled plan deps i b)) in
          let here : path (compiled plan deps) i n ≡ place_of (cell_of plan i w.0) = ap (path (compiled plan deps) i) (sym w.2) ∙ path-compiled passable tasks plan free deps i w.0 b w.1 in
          subst (λ q. IsTrue (passable q)) (sym here) (free.on_ground i w.0 b);
      arrives = λ i l.
          let b : i < length plan = omega (arith, length-compiled plan deps) in
          ap (path (compiled plan deps) i) (moves-compiled plan deps i b) ∙ path-compiled passable tasks plan free deps i (steps plan) b (omega arith) ∙ ap place_of (sym (goal_of-compiled plan deps i b));
      in_range = λ i n w c. elim (awaits_cases plan deps i n) [
        | inl e ↦ let z = subst (λ ws. Contains ws w) e c in absurd (omega (arith, z.1))
        | inr v ↦
            let h = All-contains (IsAwaitOf plan i v.0) (entry_awaits plan deps i v.0) w (entry-sound plan deps i v.0) (subst (λ ws. Contains ws w) v.1.awaits c) in
            record {
              agent = omega (arith, h.agent, length-compiled plan deps);
              other = h.other;
              first = omega (arith, h.step.4);
              last = omega (arith, count-le plan i v.0 w h, moves-compiled plan deps w.agent h.agent);
            }
      ];
    };
    numbering = (action_number plan, numbering);
    orderly = compiled-orderly passable tasks plan free deps;
  }
