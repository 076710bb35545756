-- A visit is a longest run of positions on one place.
use Rattle.std.proofs.Common.{◌≡◌, ◌≢◌, ℕ, zero, suc, ◌+◌, ◌<◌, ◌≤◌, Bool, true, false, length, drop, refl, ap, sym, ◌∙◌, arith, add-one, inl, inr}
use Rattle.std.proofs.lemmas.Bool.{cases_order}
use Rattle.fleet_model.specs.declared.program.Action.{Action}
use Rattle.fleet_model.specs.declared.program.Visit.{Visit}
use Rattle.fleet_model.specs.Geometry.{is_move}
use Rattle.fleet_model.specs.Program.{Program, actions_of, moves, path}
use Rattle.fleet_model.specs.Visit.{is_entry, stays_before, next_move, IsVisit, leaving, IsLongestRun}
use Rattle.fleet_model.proofs.Chains.{there, action_there, stay_path, move_path, entry_moves, move_enters, next_is_move, next_within, stays_to}

entry_apart : (p : Program) (i n k : ℕ) → is_entry p i n ≡ true → k + 1 ≡ n → path p i k ≢ path p i n
entry_apart p i zero k e s same = omega arith
entry_apart p i (suc n) k e s same =
    let a = entry_moves p i n e in
    let k-is : k ≡ n = omega arith in
    move_path p i n a.0 a.1 a.2 (ap (path p i) (add-one n) ∙ (sym same ∙ ap (path p i) k-is))

apart_entry : (p : Program) (i n : ℕ) → n ≤ moves p i → ((k : ℕ) → k + 1 ≡ n → path p i k ≢ path p i n) → is_entry p i n ≡ true
apart_entry p i zero le apart = refl
apart_entry p i (suc n) le apart = go (is_move a.0.step) refl
  where
    a : (a : Action) × there p i n a
    a = action_there p i n (omega arith)

    go : (b : Bool) → is_move a.0.step ≡ b → is_entry p i (suc n) ≡ true
    go true is = move_enters p i n a.0 a.1 is
    go false is = absurd (apart n (add-one n) (sym (stay_path p i n a.0 a.1 is) ∙ ap (path p i) (add-one n)))

-- a move after m is to another place
next_apart : (p : Program) (i m l : ℕ) → l < moves p i → next_move p i m ≡ l + 1 → path p i l ≡ path p i m → path p i (l + 1) ≢ path p i m
next_apart p i m l lt e same back =
    let a = action_there p i l lt in
    move_path p i l a.0 a.1 (next_is_move p i m l a.0 a.1 (sym e)) (back ∙ sym same)

pub visit_is_run : (p : Program) (v : Visit) → IsVisit p v → (l : ℕ) × ((leaving p v).number ≡ l + 1) × IsLongestRun p v.agent v.position l
visit_is_run p v h = (
  l,
  e,
  record {
    order = omega arith;
    within = omega (arith, next_within p v.agent v.position h.position);
    one_place = λ k from to. stays_to p v.agent v.position k from (omega (arith, next_within p v.agent v.position h.position)) (omega arith);
    before = λ k s. entry_apart p v.agent v.position k h.entered s;
    after = λ lt. next_apart p v.agent v.position l lt e (stays_to p v.agent v.position l (omega arith) (omega arith) (omega arith));
  },
)
  where
    l : ℕ
    l = v.position + stays_before (drop v.position (actions_of p v.agent))

    e : next_move p v.agent v.position ≡ v.position + stays_before (drop v.position (actions_of p v.agent)) + 1
    e = omega arith

pub run_is_visit : (p : Program) (i first last : ℕ) → i < length p → IsLongestRun p i first last
    → IsVisit p (record { agent = i; position = first }) × (next_move p i first ≡ last + 1)
run_is_visit p i first last agent h = (
  record { agent = agent; position = omega (arith, h.order, h.within); entered = entered },
  elim (cases_order (next_move p i first) (last + 1)) [
    | inl e ↦ e
    | inr (inl sooner) ↦ absurd (too_soon sooner)
    | inr (inr later) ↦ absurd (h.after (omega (arith, later, next_within p i first (omega (arith, h.order, h.within))))
        (stays_to p i first (last + 1) (omega (arith, h.order)) (omega (arith, later, next_within p i first (omega (arith, h.order, h.within)))) later))
  ],
)
  where
    entered : is_entry p i first ≡ true
    entered = apart_entry p i first (omega (arith, h.order, h.within)) h.before

    too_soon : next_move p i first < last + 1 → ⊥
    too_soon lt =
        let n : ℕ = first + stays_before (drop first (actions_of p i)) in
        let a = action_there p i n (omega (arith, lt, h.within)) in
        move_path p i n a.0 a.1 (next_is_move p i first n a.0 a.1 (omega arith))
        (h.one_place (n + 1) (omega arith) (omega (arith, lt)) ∙ sym (h.one_place n (omega arith) (omega (arith, lt))))
