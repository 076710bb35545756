-- Agents that are taken off lists while others move.
use Rattle.std.proofs.Common.{◌≡◌, ◌≢◌, ◌<◌, ◌≤◌, ◌+◌, ◌&&◌, ◌||◌, ℕ, Bool, true, false, List, length, set, None, refl, ap, sym, ◌∙◌, subst, inl, inr, arith, get_or-set_same, get_or-set_other, length-set}
use Rattle.std.specs.Prelude.{◌==◌}
use Rattle.std.proofs.lemmas.Bool.{cases_eq, cases_lt, lt-ltb, le-ltb}
use Rattle.std.proofs.Math.Bool.{or-false}
use Rattle.fleet_model.specs.declared.standing.Standing.{Standing}
use Rattle.fleet_model.specs.Program.{Program}
use Rattle.fleet_model.specs.Machine.{count_at}
use Rattle.fleet_machine.specs.AgentSet.{AreNoneFrom, IsNextFrom}
use Rattle.fleet_machine.specs.WaitLists.{home_of}
use Rattle.fleet_machine.specs.Machine.{MachineState, flag_of, mark_of, agent_of, is_reached, passed, after_next}
use Rattle.fleet_machine.specs.Waking.{is_on, is_woken_by, advanced_one, held_back, IsWoken}
use Rattle.fleet_machine.proofs.Waking.{below, reached_below, same_lists, more_woken, none_woken, none_reached, all_reached, one_more_reached}
use Rattle.fleet_machine.proofs.Ticking.{unwoken}

-- of the flagged agents below n and below i, between which none is flagged
below_law : (flags : List Bool) (n i k : ℕ) → n ≤ i → ((k : ℕ) → n ≤ k → k < i → flag_of flags k ≡ false) → below flags i k ≡ below flags n k
below_law flags n i k le between =
    elim (cases_lt k n) [
      | inl lt ↦ rw (lt-ltb k n lt, lt-ltb k i (omega arith)) refl
      | inr ge ↦ elim (cases_lt k i) [
        | inl lt ↦ rw (between k ge lt) refl
        | inr past ↦ rw (le-ltb k n ge, le-ltb k i past) refl
      ]
    ]

-- nobody is taken off a list yet
pub none_woken_at_first : (m as_if : MachineState) → as_if ≡ m → IsWoken (reached_below as_if 0) as_if m
none_woken_at_first m as_if same = subst (λ (a : MachineState). IsWoken (reached_below a 0) a m) (sym same) (none_woken (reached_below m 0) m (none_reached m))

module _ (p : Program) (old now : MachineState) (from : ℕ) (before : IsWoken (reached_below (unwoken old now) from) (unwoken old now) now) where
  -- up to the end
  pub all_woken_below : AreNoneFrom now.moving from → IsWoken (is_woken_by (unwoken old now)) (unwoken old now) now
  all_woken_below none =
      same_lists (reached_below (unwoken old now) from) (is_woken_by (unwoken old now)) (unwoken old now) now
      (λ k. all_reached (unwoken old now) from none k ∙ or-false (reached_below (unwoken old now) from k)) before

  -- the next one that is to move
  module _ (i : ℕ) (next : IsNextFrom now.moving from i) where
    -- it moves
    abbrev one : MachineState
    one = advanced_one p (unwoken old now) i

    still_reached : (k : ℕ) → reached_below one i k ≡ reached_below (unwoken old now) from k
    still_reached k =
        elim (cases_lt (agent_of k) from) [
          | inl lt ↦
              let later = next.later in
              let other : agent_of k ≢ i = omega arith in
              let count : count_at one.configuration (agent_of k) ≡ count_at now.configuration (agent_of k) =
              ap (λ (s : Standing). s.count) (get_or-set_other now.configuration i (agent_of k) (after_next p now.configuration i) _ other) in
              rw (count, below_law now.moving from i (agent_of k) next.later next.between) refl
          | inr ge ↦ rw (below_law now.moving from i (agent_of k) next.later next.between, le-ltb (agent_of k) from ge) (none (flag_of now.moving (agent_of k)) (is_reached one k) (is_reached (unwoken old now) k))
        ]
      where
        none : (a r s : Bool) → ((a && false) && r) ≡ ((a && false) && s)
        none true r s = refl
        none false r s = refl

    so_far : IsWoken (reached_below one i) one (advanced_one p now i)
    so_far =
        let woken = same_lists (reached_below (unwoken old now) from) (reached_below one i) (unwoken old now) now still_reached before in
        record {
          same = ap (λ (m : MachineState). record m {
            configuration = set now.configuration i (after_next p now.configuration i);
            marks = set now.marks i (passed (mark_of now.marks i));
          }) woken.same;
          long_due = woken.long_due;
          long_least = woken.long_least;
          long_homes = woken.long_homes;
          homes = woken.homes;
          due = woken.due;
          least = woken.least;
        }

    next_one : IsNextFrom one.moving i i
    next_one = record { agent = next.agent; later = omega arith; member = next.member; between = λ k ge lt. absurd (omega arith) }

    pub one_wakes : (new : MachineState) → IsWoken (λ k. (agent_of k == i) && is_reached (advanced_one p now i) k) (advanced_one p now i) new
        → IsWoken (reached_below (unwoken old new) (i + 1)) (unwoken old new) new
    one_wakes new wakes =
        rw (ap (unwoken old) wakes.same)
        (more_woken (reached_below one i) (λ k. (agent_of k == i) && is_reached (advanced_one p now i) k) (reached_below one (i + 1)) one (advanced_one p now i) new
        (one_more_reached one (advanced_one p now i) i i so_far next_one) so_far wakes)

    -- .. or is held
    abbrev kept : MachineState
    kept = held_back (unwoken old now) i

    kept_reached : (k : ℕ) → reached_below kept (i + 1) k ≡ reached_below (unwoken old now) from k
    kept_reached k = ap (λ b. b && is_reached (unwoken old now) k) (flags (agent_of k))
      where
        flags : (j : ℕ) → below (set now.moving i false) (i + 1) j ≡ below now.moving from j
        flags j =
            elim (cases_eq j i) [
              | inl same ↦ let later = next.later in rw (same, get_or-set_same now.moving i false false next.agent, le-ltb i from later) (none (flag_of now.moving i))
              | inr other ↦ elim (cases_lt j i) [
                | inl lt ↦ rw (get_or-set_other now.moving i j false false other, lt-ltb j (i + 1) (omega arith), sym (lt-ltb j i lt)) (below_law now.moving from i j next.later next.between)
                | inr past ↦ let later = next.later in rw (le-ltb j (i + 1) (omega arith), le-ltb j from (omega arith)) (no_more (flag_of (set now.moving i false) j) (flag_of now.moving j))
              ]
            ]
          where
            none : (a : Bool) → false ≡ (a && false)
            none true = refl
            none false = refl

            no_more : (a b : Bool) → (a && false) ≡ (b && false)
            no_more true true = refl
            no_more true false = refl
            no_more false true = refl
            no_more false false = refl

    pub held_wakes_none : home_of old.waiting.homes i ≡ None → IsWoken (reached_below (unwoken old (held_back now i)) (i + 1)) (unwoken old (held_back now i)) (held_back now i)
    held_wakes_none nowhere =
        let woken = same_lists (reached_below (unwoken old now) from) (reached_below kept (i + 1)) (unwoken old now) now kept_reached before in
        record {
          same = ap (λ (m : MachineState). record m { moving = set now.moving i false; due = set now.due i false }) woken.same;
          long_due = length-set now.due i false ∙ (woken.long_due ∙ sym (length-set now.moving i false));
          long_least = woken.long_least;
          long_homes = woken.long_homes;
          homes = woken.homes;
          due = λ k inside. elim (cases_eq k i) [
            | inl same ↦
                let there : i < length now.due = omega (arith, woken.long_due, next.agent) in
                rw (same, get_or-set_same now.due i false false there, get_or-set_same now.moving i false false next.agent, nowhere) refl
            | inr other ↦
                get_or-set_other now.due i k false false other
                ∙ (woken.due k (omega (arith, inside, length-set now.moving i false))
                ∙ ap (λ b. b || is_on (reached_below kept (i + 1)) (home_of old.waiting.homes k)) (sym (get_or-set_other now.moving i k false false other)))
          ];
          least = woken.least;
        }
