-- One more agent moved, or left where it is.
use Rattle.std.proofs.Common.{◌≡◌, ◌<◌, ◌≤◌, ◌&&◌, ℕ, ◌+◌, Bool, true, false, List, [], ◌||◌, zero, suc, length, get_or, slice_get, set, refl, ap, sym, ◌∙◌, subst, arith, add-one, below_more, get_or-set_same, get_or-set_other, length-set, ◌≢◌}
use Rattle.std.specs.List.{filter, list_any}
use Rattle.std.proofs.lemmas.Bool.{cases_lt}
use Rattle.std.proofs.lemmas.List.FromFn.{fill_by_all}
use Rattle.std.proofs.Math.Bool.{or-true, or-false}
use Rattle.fleet_model.specs.declared.standing.Standing.{Standing}
use Rattle.fleet_model.specs.Program.{Program, actions_of}
use Rattle.fleet_model.specs.Machine.{Configuration, standing_at, next_action, finished_one, is_ready, is_moving, standing_after, indices, tick}
use Rattle.fleet_machine.proofs.Indices.{any_more, filter_more}
use Rattle.fleet_machine.specs.Machine.{flag_of, moving_flags}

-- where an agent that moves stands afterwards
pub after_move : (p : Program) (held : ℕ → Bool) (old rows : Configuration) (i : ℕ) → is_moving p held old i ≡ true → standing_at rows i ≡ standing_at old i
    → finished_one (standing_at rows i) (next_action p rows i) ≡ standing_after p held old i
after_move p held old rows i flag here =
    rw flag (ap (λ (s : Standing). finished_one s (slice_get (actions_of p i) s.count)) here)

pub stays : (p : Program) (held : ℕ → Bool) (old : Configuration) (i : ℕ) → is_moving p held old i ≡ false → standing_at old i ≡ standing_after p held old i
stays p held old i flag = rw flag refl

-- ---- from one agent to the next

-- what goes on from each number to the next goes on from n to i
pub onward : (P : ℕ → Type 0) (n i : ℕ) → n ≤ i → ((k : ℕ) → n ≤ k → k < i → P k → P (k + 1)) → P n → P i
onward P n zero le step h = subst P (omega arith) h
onward P n (suc i) le step h =
    elim (cases_lt i n) [
      | Rattle.std.proofs.Common.inl lt ↦ subst P (omega arith) h
      | Rattle.std.proofs.Common.inr ge ↦ subst P (add-one i) (step i ge (omega arith) (onward P n i ge (λ k from below. step k from (omega arith)) h))
    ]

-- the agents below n have moved, or stay for this tick, and of the others those that are ready are to move
pub record IsAdvanced (p : Program) (held : ℕ → Bool) (old rows : Configuration) (moving : List Bool) (n count : ℕ) (ready_held : Bool) : Type 0 where
  pub done : (k : ℕ) → k < n → standing_at rows k ≡ standing_after p held old k
  pub rest : (k : ℕ) → n ≤ k → standing_at rows k ≡ standing_at old k
  pub counted : count ≡ length (filter (is_moving p held old) (indices n))
  pub few : count ≤ n
  pub long : length rows ≡ length p
  pub flags : length moving ≡ length p
  pub flagged : (k : ℕ) → k < n → flag_of moving k ≡ is_moving p held old k
  pub to_move : (k : ℕ) → n ≤ k → k < length p → flag_of moving k ≡ is_ready p old k
  pub held_is : ready_held ≡ list_any (λ k. is_ready p old k && held k) (indices n)

module _ (p : Program) (held : ℕ → Bool) (old rows : Configuration) (moving : List Bool) (i count : ℕ) (ready_held : Bool) (before : IsAdvanced p held old rows moving i count ready_held) (agent : i < length p) where
  pub one_moves : is_ready p old i ≡ true → held i ≡ false
      → IsAdvanced p held old (set rows i (finished_one (standing_at rows i) (next_action p rows i))) moving (i + 1) (count + 1) ready_held
  one_moves ready free =
      let flag : is_moving p held old i ≡ true = rw (ready, free) refl in
      let s = finished_one (standing_at rows i) (next_action p rows i) in
      let e = after_move p held old rows i flag (before.rest i (omega arith)) in
      let inside : i < length rows = omega (arith, before.long) in
      record {
        done = below_more (λ k. standing_at (set rows i s) k ≡ standing_after p held old k) i
            (λ k h. let ne : k ≢ i = omega arith in rw (get_or-set_other rows i k s) (before.done k h))
            (rw (get_or-set_same rows i s) e);
        rest = λ k h. let ne : k ≢ i = omega arith in rw (get_or-set_other rows i k s) (before.rest k (omega arith));
        counted = rw (filter_more (is_moving p held old) i, flag) (ap (λ n. n + 1) before.counted);
        few = let few = before.few in omega arith;
        long = length-set rows i s ∙ before.long;
        flags = before.flags;
        flagged = below_more (λ k. flag_of moving k ≡ is_moving p held old k) i before.flagged (before.to_move i (omega arith) agent ∙ (ready ∙ sym flag));
        to_move = λ k h within. before.to_move k (omega arith) within;
        held_is = rw (any_more (λ k. is_ready p old k && held k) i, ready, free) (before.held_is ∙ sym (or-false _));
      }

  -- an agent that stays
  one_stays : (flags : List Bool) (now_held : Bool) → length flags ≡ length moving → ((k : ℕ) → k ≢ i → flag_of flags k ≡ flag_of moving k) → flag_of flags i ≡ false
      → is_moving p held old i ≡ false → now_held ≡ (ready_held || (is_ready p old i && held i)) → IsAdvanced p held old rows flags (i + 1) count now_held
  one_stays flags now_held long others here flag held_is = record {
    done = below_more (λ k. standing_at rows k ≡ standing_after p held old k) i before.done
        (before.rest i (omega arith) ∙ stays p held old i flag);
    rest = λ k h. before.rest k (omega arith);
    counted = rw (filter_more (is_moving p held old) i, flag) (let e = before.counted in omega arith);
    few = let few = before.few in omega arith;
    long = before.long;
    flags = long ∙ before.flags;
    flagged = below_more (λ k. flag_of flags k ≡ is_moving p held old k) i (λ k h. let ne : k ≢ i = omega arith in others k ne ∙ before.flagged k h) (here ∙ sym flag);
    to_move = λ k h within. let ne : k ≢ i = omega arith in others k ne ∙ before.to_move k (omega arith) within;
    held_is = held_is ∙ (ap (λ b. b || (is_ready p old i && held i)) before.held_is ∙ sym (any_more (λ k. is_ready p old k && held k) i));
  }

  pub one_held : is_ready p old i ≡ true → held i ≡ true → IsAdvanced p held old rows (set moving i false) (i + 1) count true
  one_held ready is =
      let inside : i < length moving = omega (arith, before.flags) in
      one_stays (set moving i false) true (length-set moving i false) (λ k ne. get_or-set_other moving i k false false ne) (get_or-set_same moving i false false inside)
      (rw (ready, is) refl) (rw (ready, is) (sym (or-true ready_held)))

  pub one_waits : is_ready p old i ≡ false → IsAdvanced p held old rows moving (i + 1) count ready_held
  one_waits waits = one_stays moving ready_held refl (λ k ne. refl) (before.to_move i (omega arith) agent ∙ waits) (rw waits refl) (rw waits (sym (or-false ready_held)))

-- who is not ready is passed over
pub all_wait : (p : Program) (held : ℕ → Bool) (old rows : Configuration) (moving : List Bool) (n i count : ℕ) (ready_held : Bool) → n ≤ i → i ≤ length p
    → ((k : ℕ) → n ≤ k → k < i → is_ready p old k ≡ false) → IsAdvanced p held old rows moving n count ready_held → IsAdvanced p held old rows moving i count ready_held
all_wait p held old rows moving n i count ready_held le within waits before =
    onward (λ k. IsAdvanced p held old rows moving k count ready_held) n i le (λ k from below h. one_waits p held old rows moving k count ready_held h (omega arith) (waits k from below)) before

module _ (p : Program) (held : ℕ → Bool) (old rows : Configuration) (moving : List Bool) (count : ℕ) (ready_held : Bool) (all : IsAdvanced p held old rows moving (length p) count ready_held) where
  pub all_advanced : rows ≡ tick p held old
  all_advanced = fill_by_all (standing_after p held old) rows (length p) (standing_at [] 0) all.long (λ k h. all.done k h)

  pub all_flagged : moving ≡ moving_flags p held old
  all_flagged = fill_by_all (is_moving p held old) moving (length p) false all.flags (λ k h. all.flagged k h)
