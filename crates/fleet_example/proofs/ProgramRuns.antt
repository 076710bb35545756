-- Runs of the worked programs.
use Rattle.std.proofs.Common.{◌≡◌, ℕ, zero, suc, ◌+◌, ◌-◌, ◌<◌, ◌≤◌, Bool, true, false, if◌then◌else◌, not, List, [], ◌∷◌, length, refl, ap, sym, ◌∙◌, subst, arith, inl, inr}
use Rattle.std.specs.List.{list_all}
use Rattle.std.proofs.lemmas.Bool.{or_left, both_ways, cases_lt}
use Rattle.std.proofs.lemmas.List.{get_or-replicate, get_or_past, length-replicate}
use Rattle.fleet_model.specs.declared.geometry.Place.{Place}
use Rattle.fleet_model.specs.Program.{Program}
use Rattle.fleet_model.specs.Machine.{Configuration, Holds, is_among, is_held, opening, tick, run, indices, held_ticks, is_finished, is_stuck, is_over, is_ready_held, IsFinish}
use Rattle.fleet_example.specs.Programs.{pair, both_held, deadlock, ShowsPlaces, RunsAs}
use Rattle.fleet_example.proofs.Computed.{least_is}

pub runs_as : (p : Program) (holds : Holds) (rows : List (List Place)) (f w : ℕ) → length rows ≡ f + 1 → ShowsPlaces p holds rows
    → is_finished p (run p holds f) ≡ true
    → list_all (λ s. not (is_finished p (run p holds s))) (indices f) ≡ true
    → list_all (λ s. not (is_over p (run p holds s))) (indices f) ≡ true
    → held_ticks p holds f ≡ w → RunsAs p holds rows f w
runs_as p holds rows f w all places done no_sooner no_end held = record {
  all = all;
  places = places;
  finish = least_is (λ t. is_finished p (run p holds t)) f done no_sooner;
  end = least_is (λ t. is_over p (run p holds t)) f (or_left (is_finished p (run p holds f)) (is_stuck p (run p holds f)) done) no_end;
  held = held;
}

-- ---- the pair with both agents held

held_at : (n t : ℕ) → t < n → is_held (both_held n) t ≡ is_among (0 ∷ 1 ∷ [])
held_at n t lt = ap is_among (get_or-replicate n t (0 ∷ 1 ∷ []) [] lt)

free_at : (n t : ℕ) → n ≤ t → is_held (both_held n) t ≡ is_held [] t
free_at n t le = ap is_among (get_or_past (both_held n) t [] (let l : length (both_held n) ≡ n = length-replicate {A = List ℕ} n (0 ∷ 1 ∷ []) in omega arith))

pub pair_stands : (n t : ℕ) → t ≤ n → run pair (both_held n) t ≡ opening pair
pair_stands n zero le = refl
pair_stands n (suc t) le =
    ap (tick pair (is_held (both_held n) t)) (pair_stands n t (omega arith))
    ∙ ap (λ (held : ℕ → Bool). tick pair held (opening pair)) (held_at n t (omega arith))

-- then the run is the one in which nobody is held
pair_goes : (n k : ℕ) → run pair (both_held n) (n + k) ≡ run pair [] k
pair_goes n zero = let e : n + zero ≡ n = omega arith in rw e (pair_stands n n (omega arith))
pair_goes n (suc k) =
    let e : n + suc k ≡ suc (n + k) = omega arith in
    rw e (ap (tick pair (is_held (both_held n) (n + k))) (pair_goes n k)
    ∙ ap (λ (held : ℕ → Bool). tick pair held (run pair [] k)) (free_at n (n + k) (omega arith)))

abbrev counted : Bool → ℕ
counted b = if b then 1 else 0

held_while : (n t : ℕ) → t ≤ n → held_ticks pair (both_held n) t ≡ t
held_while n zero le = refl
held_while n (suc t) le =
    let one : counted (is_ready_held pair (is_held (both_held n) t) (run pair (both_held n) t)) ≡ 1 =
    ap (λ (c : Configuration). counted (is_ready_held pair (is_held (both_held n) t) c)) (pair_stands n t (omega arith))
    ∙ ap (λ (held : ℕ → Bool). counted (is_ready_held pair held (opening pair))) (held_at n t (omega arith)) in
    omega (arith, held_while n t (omega arith), one)

held_after : (n k : ℕ) → held_ticks pair (both_held n) (n + k) ≡ n + held_ticks pair [] k
held_after n zero = let e : n + zero ≡ n = omega arith in rw e (held_while n n (omega arith))
held_after n (suc k) =
    let e : n + suc k ≡ suc (n + k) = omega arith in
    let one : counted (is_ready_held pair (is_held (both_held n) (n + k)) (run pair (both_held n) (n + k))) ≡ counted (is_ready_held pair (is_held [] k) (run pair [] k)) =
    ap (λ (c : Configuration). counted (is_ready_held pair (is_held (both_held n) (n + k)) c)) (pair_goes n k)
    ∙ ap (λ (held : ℕ → Bool). counted (is_ready_held pair held (run pair [] k))) (free_at n (n + k) (omega arith)) in
    rw e (omega (arith, held_after n k, one))

pub pair_held : (n : ℕ) → held_ticks pair (both_held n) (n + 3) ≡ n
pair_held n = omega (arith, held_after n 3)

pub pair_finish : (n : ℕ) → IsFinish pair (both_held n) (n + 3)
pair_finish n = record {
  holds = subst (λ (c : Configuration). is_finished pair c ≡ true) (sym (pair_goes n 3)) refl;
  least = least;
}
  where
    unfinished : (k : ℕ) → k < 3 → is_finished pair (run pair [] k) ≡ false
    unfinished zero lt = refl
    unfinished (suc zero) lt = refl
    unfinished (suc (suc zero)) lt = refl
    unfinished (suc (suc (suc k))) lt = absurd (omega arith)

    at : (s : ℕ) → s < n + 3 → is_finished pair (run pair (both_held n) s) ≡ false
    at s lt = elim (cases_lt s n) [
      | inl under ↦ subst (λ (c : Configuration). is_finished pair c ≡ false) (sym (pair_stands n s (omega arith))) refl
      | inr over ↦ (
          let e : n + (s - n) ≡ s = omega arith in
          rw e at (subst (λ (c : Configuration). is_finished pair c ≡ false) (sym (pair_goes n (s - n))) (unfinished (s - n) (omega arith))))
    ]

    least : (s : ℕ) → is_finished pair (run pair (both_held n) s) ≡ true → n + 3 ≤ s
    least s h = elim (cases_lt s (n + 3)) [
      | inl under ↦ absurd (both_ways (is_finished pair (run pair (both_held n) s)) (at s under) h)
      | inr over ↦ over
    ]

-- ---- agents that await each other

pub deadlock_stands : (holds : Holds) (t : ℕ) → run deadlock holds t ≡ opening deadlock
deadlock_stands holds zero = refl
deadlock_stands holds (suc t) = ap (tick deadlock (is_held holds t)) (deadlock_stands holds t)
