-- Actions of one byte each.
use Rattle.fleet_code.proofs.Words.{◌≡◌, ℕ, zero, suc, ◌+◌, ◌≤◌, ◌↔◌, true, false, ltb, List, [], ◌∷◌, length, get_or, take, drop, All, Option, Some, None, Ok, refl, sym, ap, subst, arith, inl, inr, IsTrue, is_none, position, range_with_len, position_or_len, cases_Bool, ltb-true, ltb-false, All-nil, All-cons, All-get_or, All-head, All-tail, Step, Go, Dwell, North, East, South, West, Action, Version, One, Two, stay_in, step_at, action_at, actions_at, last_step, opcodes, ends_of}
use Rattle.std.proofs.lemmas.List.Quantifiers.{position-Some}
use Rattle.fleet_text.proofs.TextLaws.{found_nowhere}

stay_there : (v : Version) → 4 ≤ last_step v → (s : Step) × (stay_in v ≡ Some s)
stay_there One le = absurd (omega (arith, le))
stay_there Two le = (Dwell, refl)

past_steps : (v : Version) (b : ℕ) → b + 5 ≤ last_step v → ⊥
past_steps One b le = omega (arith, le)
past_steps Two b le = omega (arith, le)

pub step_there : (v : Version) (b : ℕ) → b ≤ last_step v → (s : Step) × (step_at v b ≡ Some s)
step_there v zero le = (Go North, refl)
step_there v (suc zero) le = (Go East, refl)
step_there v (suc (suc zero)) le = (Go South, refl)
step_there v (suc (suc (suc zero))) le = (Go West, refl)
step_there v (suc (suc (suc (suc zero)))) le = stay_there v le
step_there v (suc (suc (suc (suc (suc b))))) le = absurd (past_steps v b (omega (arith, le)))

all_below : (k : ℕ) (xs : List ℕ) → length xs ≤ position_or_len (λ b. ltb k b) xs → All (λ b. b ≤ k) xs
all_below k [] past = All-nil (λ (b : ℕ). b ≤ k)
all_below k (x ∷ xs) past =
    elim (cases_Bool (ltb k x)) [
      | inl t ↦ absurd (let h = rw t at past in omega (arith, h))
      | inr t ↦ (let h = rw t at past in All-cons (λ (b : ℕ). b ≤ k) x xs (ltb-false k x t) (all_below k xs (omega (arith, h))))
    ]

-- no byte is above the greatest opcode if none is found that is
pub none_above : (k : ℕ) (xs : List ℕ) (o : Option ℕ) → o ≡ position (λ b. ltb k b) xs → IsTrue (is_none o) ↔ All (λ b. b ≤ k) xs
none_above k xs None e = ((λ _. all_below k xs (found_nowhere (λ (b : ℕ). ltb k b) xs (sym e))), (λ _. refl))
none_above k xs (Some i) e =
    let f = position-Some (λ (b : ℕ). ltb k b) xs i 0 (sym e) in (
      (λ t. absurd (let g : false ≡ true = t in cc)),
      (λ steps. absurd (omega (arith, ltb-true k (get_or xs i 0) f.1, All-get_or (λ (b : ℕ). b ≤ k) xs i 0 f.0 steps))),
    )

bare_action : (v : Version) (turns whole n i b : ℕ) (rest : List ℕ) (s : Step) → step_at v b ≡ Some s → action_at v (suc turns) whole n i 0 (b ∷ rest) ≡ Ok (record { step = s; awaits = [] }, rest)
unfolding action_at
bare_action v turns whole n i b rest s e = rw e refl

pub bare_actions : (v : Version) (count whole n i at : ℕ) (bytes : List ℕ) → count ≤ length bytes → All (λ b. b ≤ last_step v) (take count bytes)
    → (actions : List Action) × (actions_at v count whole n i bytes ≡ Ok (actions, drop count bytes)) × (ends_of at actions ≡ range_with_len (at + 1) count)
unfolding actions_at
bare_actions v zero whole n i at bytes le steps = ([], refl, refl)
bare_actions v (suc count) whole n i at [] le steps = absurd (omega (arith, le))
bare_actions v (suc count) whole n i at (b ∷ bytes) le steps =
    let s = step_there v b (All-head (λ (b : ℕ). b ≤ last_step v) b (take count bytes) steps) in
    let others = bare_actions v count whole n i (at + 1) bytes (omega (arith, le)) (All-tail (λ (b : ℕ). b ≤ last_step v) b (take count bytes) steps) in
    let first = bare_action v (length bytes) whole n i b bytes s.0 s.1 in
    (record { step = s.0; awaits = [] } ∷ others.0, rw (first, others.1) refl, ap (λ ends. (at + 1) ∷ ends) others.2)

pub bare_offsets : (count : ℕ) (actions : List Action) → ends_of 0 actions ≡ range_with_len (0 + 1) count → range_with_len 0 (count + 1) ≡ 0 ∷ ends_of 0 actions
bare_offsets count actions e =
    let more : count + 1 ≡ suc count = omega arith in
    rw (more, e) refl

-- an action, and then others without awaits
pub bare_later : (v : Version) (count whole n i : ℕ) (bytes after : List ℕ) (first : Action) → action_at v (length bytes) whole n i 0 bytes ≡ Ok (first, after) → count ≤ length after
    → All (λ b. b ≤ last_step v) (take count after)
    → (actions : List Action) × (actions_at v (suc count) whole n i bytes ≡ Ok (actions, drop count after)) × (0 ∷ range_with_len (opcodes first) (suc count) ≡ 0 ∷ ends_of 0 actions)
unfolding actions_at
bare_later v count whole n i bytes after first e le steps =
    let others = bare_actions v count whole n i (opcodes first) after le steps in
    let on : 0 + opcodes first ≡ opcodes first = omega arith in
    (first ∷ others.0, rw (e, others.1) refl, subst (λ (k : ℕ). 0 ∷ range_with_len (opcodes first) (suc count) ≡ 0 ∷ k ∷ ends_of k others.0) (sym on) (ap (λ (ends : List ℕ). 0 ∷ opcodes first ∷ ends) (sym others.2)))
