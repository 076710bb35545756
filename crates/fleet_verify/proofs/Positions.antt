-- One action further along a path, and one agent more.
use Rattle.fleet_verify.proofs.Words.{◌≡◌, ℕ, ℤ, pos, negsuc, ◌+◌, ◌<◌, ◌<ℤ◌, ◌≤ℤ◌, ◌≤◌, ◌⊎◌, inl, inr, refl, length, Bool, Option, Some, None, false, sym, ◌∙◌, subst, arith, IsTrue, ints, Ground, IsGround, is_passable, passable_at, option_map, option_or, Cell, Place, Step, ActionId, IsInReach, place_of, stepped, Program, moves, path, step_of, IsWellFormed, off_map, StandsRight, IsPosition, AnswersFirst, AnswersFirstAction}
use Rattle.fleet_verify.specs.declared.agents.Position.TheVariants.{OnGround, OffGround}
use Rattle.fleet_verify.proofs.Paths.{step_from, falls_off, in_reach}
use Rattle.fleet_verify.proofs.Ranges.{up_to_more, agents_more}

module _ (passable : Place → Bool) (p : Program) (i n : ℕ) (d : Step) (dir : step_of p i (n + 1) ≡ Some d) where
  pub stays_on : (c next : Cell) → IsPosition passable p i n (OnGround c) → place_of next ≡ stepped (place_of c) d → IsTrue (passable (place_of next)) → IsPosition passable p i (n + 1) (OnGround next)
  stays_on c next (here, before) to on =
      let there : place_of next ≡ path p i (n + 1) = to ∙ sym (step_from p i n (place_of c) d here dir) in
      (there, up_to_more (StandsRight passable p i) n before (subst (λ (q : Place). IsTrue (passable q)) there on))

  pub leads_off : (c : Cell) (r : Place) → IsPosition passable p i n (OnGround c) → passable (stepped (place_of c) d) ≡ false → r ≡ stepped (place_of c) d → IsPosition passable p i (n + 1) (OffGround r (n + 1))
  leads_off c r (here, before) off to = (to ∙ sym (step_from p i n (place_of c) d here dir), falls_off passable p i n (place_of c) d before here dir off)

  pub goes_on : (q r : Place) (a : ℕ) → IsPosition passable p i n (OffGround q a) → r ≡ stepped q d → IsPosition passable p i (n + 1) (OffGround r a)
  goes_on q r a (here, first) to = (to ∙ sym (step_from p i n q d here dir), record { within = omega (arith, first.within); wrong = first.wrong; sooner = first.sooner })

-- from a place off the ground too a step leads to a place
pub place_in_reach : (passable : Place → Bool) (p : Program) → IsWellFormed p → (i n : ℕ) (q : Place) (a : ℕ) → n ≤ moves p i → IsPosition passable p i n (OffGround q a) → IsInReach q
place_in_reach passable p wf i n q a l h = in_reach p wf i n q l h.0

-- what was found of the agents before, and of one more
pub one_agent_more : (p : Program) (Right : ℕ → ℕ → Type 0) (i : ℕ) (found : Option ActionId) (n : Option ℕ) (told : Option ActionId) → AnswersFirstAction p Right i found → AnswersFirst (moves p i) (Right i) n → i < length p
    → told ≡ option_or found (option_map (λ m. record { agent = i; number = m }) n) → AnswersFirstAction p Right (i + 1) told
one_agent_more p Right i found n told before here inside e = subst (AnswersFirstAction p Right (i + 1)) (sym e) (go found n before here)
  where
    go : (o : Option ActionId) (m : Option ℕ) → AnswersFirstAction p Right i o → AnswersFirst (moves p i) (Right i) m → AnswersFirstAction p Right (i + 1) (option_or o (option_map (λ k. record { agent = i; number = k }) m))
    go (Some a) m (l, first) h = (omega arith, first)
    go None None all h = agents_more Right (moves p) i all h
    go None (Some m) all h = (omega arith, record { agent = inside; action = h; others = all })

-- a place that is beyond the first or the last column or row of a map is not passable
pub beyond_map : (g : Ground) (p : Place) → IsGround g → (p.x <ℤ pos 0) ⊎ (pos g.width ≤ℤ p.x) ⊎ (p.y <ℤ pos 0) ⊎ (pos g.height ≤ℤ p.y) → is_passable g p ≡ false
beyond_map g p ground beyond = go p.x p.y beyond
  where
    go : (x y : ℤ) → (x <ℤ pos 0) ⊎ (pos g.width ≤ℤ x) ⊎ (y <ℤ pos 0) ⊎ (pos g.height ≤ℤ y) → passable_at g x y ≡ false
    go (pos x) (pos y) (inl l) = absurd (omega (arith, ints, l))
    go (pos x) (pos y) (inr (inl l)) = off_map g x y ground (inl (omega (arith, ints, l)))
    go (pos x) (pos y) (inr (inr (inl l))) = absurd (omega (arith, ints, l))
    go (pos x) (pos y) (inr (inr (inr l))) = off_map g x y ground (inr (omega (arith, ints, l)))
    go (pos x) (negsuc y) l = refl
    go (negsuc x) y l = refl
