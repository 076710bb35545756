-- Whether an agent has left its visit.
use Rattle.fleet_verify.proofs.Words.{◌≡◌, ℕ, zero, suc, ◌+◌, ◌<◌, ◌≤◌, true, false, List, [], ◌∷◌, Some, drop, slice_get, length, refl, ap, sym, ◌∙◌, subst, arith, add-one, inl, inr, option_map_or, Step, is_move, cases_lt, slice_get-get_or, slice_get_within, get_or_from_slice_get, same_Some, Await, Action, Visit, Program, actions_of, awaits_of, step_of, AreMoves, NeverStays, is_entry, stays_before, next_move, leaving, IsLaterVisit, ComesAfterByAwait, next_upto, stay_on}
use Rattle.fleet_verify.proofs.Paths.{action_with}

-- a position begins a visit if its action is a move
pub entry_by : (p : Program) (i n : ℕ) (s : Step) → step_of p i (n + 1) ≡ Some s → is_entry p i (n + 1) ≡ is_move s
entry_by p i n s e =
    let e' : step_of p i (suc n) ≡ Some s = rw add-one at e in
    let a = action_with (slice_get (actions_of p i) n) s e' in
    ap (is_entry p i) (add-one n) ∙ (ap (λ (o : Rattle.std.specs.Prelude.Option Rattle.fleet_model.specs.declared.program.Action.Action). Rattle.std.specs.Option.option_map_or (λ b. is_move b.step) o false) a.1 ∙ ap is_move a.2)

-- by its next move an agent leaves its visit
pub left_by : (p : Program) (i m n : ℕ) (s : Step) → step_of p i (n + 1) ≡ Some s → is_move s ≡ true → m ≤ n → next_move p i m ≤ n + 1
left_by p i m n s e is le = next_upto p i m (n + 1) (omega arith) (entry_by p i n s e ∙ is)

-- and by a stay it does not
pub in_still : (p : Program) (i m n : ℕ) (s : Step) → step_of p i (n + 1) ≡ Some s → is_move s ≡ false → m ≤ n → n < next_move p i m → n + 1 < next_move p i m
in_still p i m n s e is le lt =
    let e' : step_of p i (suc n) ≡ Some s = rw add-one at e in
    let a = action_with (slice_get (actions_of p i) n) s e' in
    stay_on p i m n a.0 a.1 (ap is_move a.2 ∙ is) le lt

-- ---- which visit may come after which

-- an await of the leaving
pub after_found : (p : Program) (v w : Visit) (k : ℕ) (a : Await) → slice_get (awaits_of p w.agent w.position) k ≡ Some a → a.agent ≡ v.agent → (leaving p v).number ≤ a.count → ComesAfterByAwait p v w
after_found p v w k a at e l =
    inr (a, (k, slice_get_within (awaits_of p w.agent w.position) k a at, get_or_from_slice_get (awaits_of p w.agent w.position) k a a at), e, l)

-- one await more that is of another agent, or of too few actions
pub after_more : (p : Program) (v w : Visit) (k : ℕ) (x : Await) → slice_get (awaits_of p w.agent w.position) k ≡ Some x → (x.agent ≡ v.agent → (leaving p v).number ≤ x.count → ⊥)
    → ((m : ℕ) (a : Await) → m < k → slice_get (awaits_of p w.agent w.position) m ≡ Some a → a.agent ≡ v.agent → (leaving p v).number ≤ a.count → ⊥)
    → (m : ℕ) (a : Await) → m < k + 1 → slice_get (awaits_of p w.agent w.position) m ≡ Some a → a.agent ≡ v.agent → (leaving p v).number ≤ a.count → ⊥
after_more p v w k x here not sooner m a below at =
    elim (cases_lt m k) [
      | inl lt ↦ sooner m a lt at
      | inr ge ↦
          let last : m ≡ k = omega arith in
          let one : x ≡ a = same_Some _ _ (sym here ∙ (ap (λ n. slice_get (awaits_of p w.agent w.position) n) (sym last) ∙ at)) in
          subst (λ (b : Await). b.agent ≡ v.agent → (leaving p v).number ≤ b.count → ⊥) one not
    ]

-- none of the awaits is one of the leaving, and the visit is no later one of the agent
pub after_none : (p : Program) (v w : Visit) (k : ℕ) → (IsLaterVisit v w → ⊥) → length (awaits_of p w.agent w.position) ≤ k
    → ((m : ℕ) (a : Await) → m < k → slice_get (awaits_of p w.agent w.position) m ≡ Some a → a.agent ≡ v.agent → (leaving p v).number ≤ a.count → ⊥) → ComesAfterByAwait p v w → ⊥
after_none p v w k own all none (inl h) = own h
after_none p v w k own all none (inr (a, (m, l, e), f, g)) =
    none m a (omega arith) (slice_get-get_or (awaits_of p w.agent w.position) m a l ∙ ap (λ (x : Await). Some x) e) f g

-- ---- a program that never stays

-- there all actions of an agent are moves
moves_of : (p : Program) (i : ℕ) → NeverStays p → AreMoves (actions_of p i)
moves_of [] i never = λ k d l. absurd (omega arith)
moves_of (a ∷ p) zero never = never 0 a (omega arith)
moves_of (a ∷ p) (suc i) never = moves_of p i (λ k d l. never (suc k) d (omega arith))

-- there the next action is a move
next_at_once : (p : Program) (v : Visit) → NeverStays p → (leaving p v).number ≡ v.position + 1
next_at_once p v never = omega (arith, none (drop v.position (actions_of p v.agent)) (moves_after v.position (actions_of p v.agent) (moves_of p v.agent never)))
  where
    none : (xs : List Action) → AreMoves xs → stays_before xs ≡ 0
    none [] h = refl
    none (x ∷ xs) h = rw (h 0 x (omega arith)) refl

    moves_after : (n : ℕ) (xs : List Action) → AreMoves xs → AreMoves (drop n xs)
    moves_after zero xs h = h
    moves_after (suc n) [] h = h
    moves_after (suc n) (x ∷ xs) h = moves_after n xs (λ k d l. h (suc k) d (omega arith))

pub left_at_once : (p : Program) (v : Visit) (count : ℕ) → NeverStays p → v.position < count → (leaving p v).number ≤ count
left_at_once p v count never l = omega (arith, next_at_once p v never)

pub not_sooner : (p : Program) (v : Visit) (count : ℕ) → NeverStays p → (leaving p v).number ≤ count → v.position < count
not_sooner p v count never l = omega (arith, next_at_once p v never)
