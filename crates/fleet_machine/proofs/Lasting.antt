-- Who is ready and does not move is ready after the tick, since no count falls.
use Rattle.std.proofs.Common.{◌≡◌, ◌≤◌, ◌+◌, ◌&&◌, ℕ, Bool, true, false, cond, List, [], ◌∷◌, length, Option, Some, None, refl, ap, sym, subst, inl, inr, arith, leb-true}
use Rattle.std.specs.List.{list_all}
use Rattle.std.proofs.lemmas.Bool.{cases_lt, le-leb}
use Rattle.std.proofs.lemmas.List.{get_or_past}
use Rattle.fleet_model.specs.declared.program.Action.{Action}
use Rattle.fleet_model.specs.declared.program.Await.{Await}
use Rattle.fleet_model.specs.declared.standing.Standing.{Standing}
use Rattle.fleet_model.specs.Program.{Program}
use Rattle.fleet_model.specs.Machine.{Configuration, standing_at, count_at, next_action, finished_one, is_met, is_ready, is_moving, tick}
use Rattle.fleet_model.proofs.Tick.{length-tick, standing_at_tick, ready_has}

pub all_still : (f g : Await → Bool) → ((w : Await) → f w ≡ true → g w ≡ true) → (ws : List Await) → list_all f ws ≡ true → list_all g ws ≡ true
all_still f g still [] h = refl
all_still f g still (w ∷ ws) h = go (f w) refl h (all_still f g still ws)
  where
    go : (b : Bool) → f w ≡ b → (b && list_all f ws) ≡ true → (list_all f ws ≡ true → list_all g ws ≡ true) → list_all g (w ∷ ws) ≡ true
    go true here rest others = rw (still w here) (others rest)
    go false here rest others = absurd cc

count_after : (s : Standing) (o : Option Action) (b : Bool) → s.count ≤ (cond b (finished_one s o) s).count
count_after s None true = omega arith
count_after s (Some a) true = omega arith
count_after s o false = omega arith

count_within : (s : Standing) (o : Option Action) (b : Bool) → (cond b (finished_one s o) s).count ≤ s.count + 1
count_within s None true = omega arith
count_within s (Some a) true = omega arith
count_within s o false = omega arith

module _ (p : Program) (held : ℕ → Bool) (c : Configuration) (agents : length c ≡ length p) where
  pub count_rises : (j : ℕ) → count_at (tick p held c) j ≤ count_at c j + 1
  count_rises j =
      elim (cases_lt j (length p)) [
        | inl lt ↦ subst (λ (s : Standing). s.count ≤ count_at c j + 1) (sym (standing_at_tick p held c j lt)) (count_within (standing_at c j) (next_action p c j) (is_moving p held c j))
        | inr le ↦ let none : count_at (tick p held c) j ≡ 0 = ap (λ (s : Standing). s.count) (get_or_past (tick p held c) j (standing_at [] 0) (omega (arith, length-tick p held c))) in omega arith
      ]

  pub count_lasts : (j : ℕ) → count_at c j ≤ count_at (tick p held c) j
  count_lasts j =
      elim (cases_lt j (length p)) [
        | inl lt ↦ subst (λ (s : Standing). count_at c j ≤ s.count) (sym (standing_at_tick p held c j lt)) (count_after (standing_at c j) (next_action p c j) (is_moving p held c j))
        | inr le ↦ let none : count_at c j ≡ 0 = ap (λ (s : Standing). s.count) (get_or_past c j (standing_at [] 0) (omega arith)) in omega arith
      ]

  pub met_lasts : (w : Await) → is_met c w ≡ true → is_met (tick p held c) w ≡ true
  met_lasts w met = le-leb _ _ (let le = leb-true _ _ met in omega (arith, count_lasts w.agent))

  pub ready_lasts : (i : ℕ) → count_at (tick p held c) i ≡ count_at c i → is_ready p c i ≡ true → is_ready p (tick p held c) i ≡ true
  ready_lasts i same ready =
      let next = ready_has p c i ready in
      rw (same, next.1) (all_still (is_met c) (is_met (tick p held c)) met_lasts next.0.awaits next.2)
