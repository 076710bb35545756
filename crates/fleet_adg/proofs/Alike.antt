-- The programs of one plan have the same chains, whichever leavings they await.
use Rattle.fleet_adg.proofs.Words.{◌≡◌, ℕ, suc, ◌+◌, ◌<◌, ◌≤◌, Bool, List, [], ◌∷◌, length, map, Contains, inl, inr, refl, sym, ap, ◌∙◌, subst, arith, option_map_or, cases_lt, All-contains, Place, Await, Action, ActionId, AgentProgram, Visit, Task, Deps, place_of, origin, awaits_of, IsAction, DirectlyNeeds, ChainFrom, Reaches, awaited, IsVisitOf, ComesAfterByChain, entering, leaving, IsAcceptedBy, goes_next, goes_enters, chain_first, Reaches-first, Reaches-last, Reaches-need, Reaches-trans, Reaches-rises, Plan, cell_of, steps, IsConflictFree, awaits_accepted, two_ordered, DiffersInAwaits, HaveSameChains, run_over, Holds, run, changes, moves_by, entry_awaits, action_in, compiled}
use Rattle.fleet_adg.proofs.Moves.{moves_by-yes, moves_by-mono}
use Rattle.fleet_adg.proofs.Entry.{IsAwaitOf, entry-sound}
use Rattle.fleet_adg.proofs.Programs.{length-compiled, no_agent-compiled, start_of-compiled, goal_of-compiled, actions_of-compiled, moves-compiled, goes-compiled, awaits_cases, path-compiled, IsActionIn}
use Rattle.fleet_adg.proofs.Accepted.{action_number, numbering, compiled-accepted}

steps_alike : (plan : Plan) (d e : Deps) (i : ℕ) (xs : List ℕ) → map (λ (a : Action). a.step) (map (action_in plan d i) xs) ≡ map (λ (a : Action). a.step) (map (action_in plan e i) xs)
unfolding action_in
steps_alike plan d e i [] = refl
steps_alike plan d e i (x ∷ xs) = ap (λ ss. (action_in plan d i x).step ∷ ss) (steps_alike plan d e i xs)

pub compiled_alike : (plan : Plan) (d e : Deps) → DiffersInAwaits (compiled plan d) (compiled plan e)
compiled_alike plan d e = record {
  agents = length-compiled plan e ∙ sym (length-compiled plan d);
  starts = λ i. elim (cases_lt i (length plan)) [
    | inl l ↦ start_of-compiled plan e i l ∙ sym (start_of-compiled plan d i l)
    | inr l ↦ ap (λ o. option_map_or (λ (a : AgentProgram). a.start) o origin) (no_agent-compiled plan e i l ∙ sym (no_agent-compiled plan d i l))
  ];
  goals = λ i. elim (cases_lt i (length plan)) [
    | inl l ↦ goal_of-compiled plan e i l ∙ sym (goal_of-compiled plan d i l)
    | inr l ↦ ap (λ o. option_map_or (λ (a : AgentProgram). a.goal) o origin) (no_agent-compiled plan e i l ∙ sym (no_agent-compiled plan d i l))
  ];
  steps = λ i. elim (cases_lt i (length plan)) [
    | inl l ↦
        ap (map (λ (a : Action). a.step)) (actions_of-compiled plan e i l)
        ∙ steps_alike plan e d i (changes plan i (steps plan))
        ∙ sym (ap (map (λ (a : Action). a.step)) (actions_of-compiled plan d i l))
    | inr l ↦ ap (λ o. map (λ (a : Action). a.step) (option_map_or (λ (a : AgentProgram). a.actions) o [])) (no_agent-compiled plan e i l ∙ sym (no_agent-compiled plan d i l))
  ];
}

module _ (passable : Place → Bool) (tasks : List Task) (plan : Plan) (free : IsConflictFree passable tasks plan) where
  accepted : (deps : Deps) → IsAcceptedBy ComesAfterByChain passable tasks (compiled plan deps)
  accepted deps = awaits_accepted passable tasks (compiled plan deps) (compiled-accepted passable tasks plan free deps)

  action_too : (d e : Deps) (a : ActionId) → IsAction (compiled plan d) a → IsAction (compiled plan e) a
  action_too d e a k =
      let l : a.agent < length plan = omega (arith, k.agent, length-compiled plan d) in
      record { agent = omega (arith, l, length-compiled plan e); first = k.first; last = omega (arith, k.last, moves-compiled plan d a.agent l, moves-compiled plan e a.agent l) }

  -- the visit at a time of the plan
  visit_at_time : (deps : Deps) (i t : ℕ) → i < length plan → t ≤ steps plan → IsVisitOf (compiled plan deps) (place_of (cell_of plan i t)) (record { agent = i; position = moves_by plan i t })
  visit_at_time deps i t l m = record {
    agent = omega (arith, l, length-compiled plan deps);
    position = omega (arith, moves-compiled plan deps i l, moves_by-mono plan i t (steps plan) m);
    entered = goes_enters (compiled plan deps) i (moves_by plan i t) (goes-compiled plan deps i l) (omega (arith, moves-compiled plan deps i l, moves_by-mono plan i t (steps plan) m));
    place = path-compiled passable tasks plan free deps i t l m;
  }

  -- what one program awaits is the leaving of an earlier visit of the same cell, so the other needs it through a chain
  entry_too : (d e : Deps) (b : ActionId) (w : Await) (x : ℕ) → IsAction (compiled plan d) b → IsAction (compiled plan d) (awaited w) → Contains (awaits_of (compiled plan d) b.agent b.number) w → IsActionIn plan d b.agent b.number x → IsAwaitOf plan b.agent x w → Reaches (compiled plan e) (awaited w) b
  entry_too d e b w x k m c s h =
      let y : ℕ = h.step.0 in
      let q : Place = place_of (cell_of plan b.agent (suc x)) in
      let v : Visit = record { agent = w.agent; position = moves_by plan w.agent y } in
      let u : Visit = record { agent = b.agent; position = moves_by plan b.agent (suc x) } in
      let on_v : IsVisitOf (compiled plan e) q v = subst (λ z. IsVisitOf (compiled plan e) (place_of z) v) h.step.3 (visit_at_time e w.agent y h.agent (omega (arith, h.step.1, s.before))) in
      let on_u : IsVisitOf (compiled plan e) q u = visit_at_time e b.agent (suc x) s.agent s.before in
      let o = (accepted e).orderly q in
      let count : (leaving (compiled plan e) v).number ≡ w.count = goes_next (compiled plan e) w.agent v.position (goes-compiled plan e w.agent h.agent) ∙ omega (arith, h.step.4) in
      let next : (leaving (compiled plan e) u).number ≡ u.position + 1 = goes_next (compiled plan e) b.agent u.position (goes-compiled plan e b.agent s.agent) in
      let number : moves_by plan b.agent (suc x) ≡ b.number = moves_by-yes plan b.agent x s.changes ∙ sym s.number in
      let here : leaving (compiled plan e) v ≡ awaited w = (λ i. record { agent = w.agent; number = count i }) in
      let there : entering u ≡ b = (λ i. record { agent = b.agent; number = number i }) in
      elim (two_ordered (compiled plan e) q v u on_v on_u h.other o.0 o.1 o.2) [
        | inl r ↦ subst (λ z. Reaches (compiled plan e) z b) here (subst (Reaches (compiled plan e) (leaving (compiled plan e) v)) there r)
        | inr r ↦
            let left : IsAction (compiled plan e) (leaving (compiled plan e) u) = Reaches-first (compiled plan e) (leaving (compiled plan e) u) (entering v) r in
            let came : IsAction (compiled plan e) (entering v) = Reaches-last (compiled plan e) (leaving (compiled plan e) u) (entering v) r in
            let ne = numbering passable tasks plan free e in
            let a1 : action_number plan (awaited w) < action_number plan b = (numbering passable tasks plan free d).rising b (awaited w) k m (inr c) in
            let a2 : action_number plan b < action_number plan (leaving (compiled plan e) u) = ne.rising (leaving (compiled plan e) u) b left (action_too d e b k) (inl (refl, omega (arith, next, number), k.first)) in
            let a3 : action_number plan (leaving (compiled plan e) u) ≤ action_number plan (entering v) = Reaches-rises (compiled plan e) (action_number plan) ne (leaving (compiled plan e) u) (entering v) r in
            let a4 : action_number plan (entering v) < action_number plan (awaited w) = ne.rising (awaited w) (entering v) (action_too d e (awaited w) m) came (inl (refl, omega (arith, h.step.4), came.first)) in
            absurd (omega arith)
      ]

  need_too : (d e : Deps) (a b : ActionId) → IsAction (compiled plan d) a → IsAction (compiled plan d) b → DirectlyNeeds (compiled plan d) b a → Reaches (compiled plan e) a b
  need_too d e a b k m (inl o) = Reaches-need (compiled plan e) a b (action_too d e a k) (action_too d e b m) (inl o)
  need_too d e a b k m (inr c) = elim (awaits_cases plan d b.agent b.number) [
    | inl none ↦ (let z = subst (λ ws. Contains ws (record { agent = a.agent; count = a.number })) none c in absurd (omega (arith, z.1)))
    | inr s ↦
        entry_too d e b (record { agent = a.agent; count = a.number }) s.0 m k c s.1
        (All-contains (IsAwaitOf plan b.agent s.0) (entry_awaits plan d b.agent s.0) (record { agent = a.agent; count = a.number }) (entry-sound plan d b.agent s.0) (subst (λ ws. Contains ws (record { agent = a.agent; count = a.number })) s.1.awaits c))
  ]

  chain_too : (d e : Deps) (a : ActionId) (cs : List ActionId) (b : ActionId) → ChainFrom (compiled plan d) a cs b → Reaches (compiled plan e) a b
  chain_too d e a [] b (k, same) = ([], (action_too d e a k, same))
  chain_too d e a (c ∷ cs) b (k, n, r) = Reaches-trans (compiled plan e) a c b (need_too d e a c k (chain_first (compiled plan d) c cs b r) n) (chain_too d e c cs b r)

  pub same_chains : (d e : Deps) → HaveSameChains (compiled plan d) (compiled plan e)
  same_chains d e = record { rest = compiled_alike plan d e; chains = λ a b. ((λ (cs, r). chain_too d e a cs b r), (λ (cs, r). chain_too e d a cs b r)) }

  pub run_alike : (d e : Deps) (holds : Holds) (t : ℕ) → run (compiled plan d) holds t ≡ run (compiled plan e) holds t
  run_alike d e holds t = run_over (compiled plan d) (compiled plan e) (accepted d).right.in_range (accepted e).right.in_range (same_chains d e) holds t
