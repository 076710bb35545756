-- Agents that are judged, one after another.
use Rattle.std.proofs.Common.{◌≡◌, ◌≢◌, ◌<◌, ◌≤◌, ◌+◌, ℕ, Bool, true, false, not, length, filter, Option, Some, None, refl, ap, sym, ◌∙◌, subst, inl, inr, arith, cond, set, get_or-set_same, get_or-set_other, length-set}
use Rattle.std.specs.List.{list_any, list_all}
use Rattle.std.specs.Prelude.{nat_le, is_some, option_map, MatchOption}
use Rattle.std.proofs.lemmas.Bool.{cases_eq, cases_lt, le-leb, lt-ltb, ltb-true, true≢false}
use Rattle.fleet_model.specs.Program.{Program, moves}
use Rattle.fleet_model.specs.Machine.{count_at, is_ready, is_finished, indices}
use Rattle.fleet_machine.specs.AgentSet.{AreNoneFrom, IsNextFrom}
use Rattle.fleet_machine.specs.WaitLists.{home_of}
use Rattle.fleet_machine.specs.Machine.{MachineState, Runs, HasRows, IsJudged, IsRead, flag_of, list_of, unread, mark_of, is_left}
use Rattle.fleet_machine.specs.Waking.{IsPlaced, IsAsBefore}
use Rattle.fleet_machine.proofs.Advanced.{onward}
use Rattle.fleet_machine.proofs.Waiting.{lowered_le, long_lowered, home_if_lacked, home_if_lower}
use Rattle.fleet_machine.proofs.Indices.{any_at, none_more, all_more, filter_more}
use Rattle.fleet_machine.proofs.Opened.{not_finished_if}

module _ (p : Program) (before after : MachineState) (i : ℕ) (rows : HasRows (length p) before) (agent : i < length p) (placed : IsPlaced p before after i) where
  pub judged_if_placed : IsJudged p after i
  judged_if_placed =
      let c = before.configuration in
      let ready : i < length before.ready = omega (arith, rows.ready) in
      let left : i < length before.left = omega (arith, rows.left) in
      let home : i < length before.waiting.homes = omega (arith, rows.homes) in
      let mark : mark_of (set before.marks i placed.mark) i ≡ placed.mark = get_or-set_same before.marks i placed.mark unread (omega (arith, rows.marks)) in
      subst (λ m. IsJudged p m i) (sym placed.same) record {
        read = rw mark placed.read;
        all = rw mark placed.all;
        ready = get_or-set_same before.ready i (is_ready p c i) false ready;
        left = get_or-set_same before.left i (is_left p c i) false left;
        home = rw (get_or-set_same before.waiting.homes i (option_map list_of placed.lacked) None home)
            (home_if_lacked p c before.least i placed.lacked placed.belongs);
      }

  pub others_if_placed : (k : ℕ) → k ≢ i → IsAsBefore before after k
  others_if_placed k other =
      let c = before.configuration in
      subst (λ m. IsAsBefore before m k) (sym placed.same) record {
        mark = get_or-set_other before.marks i k placed.mark unread other;
        ready = get_or-set_other before.ready i k (is_ready p c i) false other;
        left = get_or-set_other before.left i k (is_left p c i) false other;
        home = get_or-set_other before.waiting.homes i k (option_map list_of placed.lacked) None other;
        least = lowered_le before.least placed.lacked;
      }

  pub rows_if_placed : HasRows (length p) after
  rows_if_placed =
      subst (λ m. HasRows (length p) m) (sym placed.same) record {
        marks = length-set before.marks i placed.mark ∙ rows.marks;
        ready = length-set before.ready i _ ∙ rows.ready;
        left = length-set before.left i _ ∙ rows.left;
        due = rows.due;
        lists = rows.lists;
        homes = length-set before.waiting.homes i (option_map list_of placed.lacked) ∙ rows.homes;
        least = long_lowered before.least placed.lacked ∙ rows.least;
      }

-- of the agents below n those that pass the test are judged, and nothing else has changed
pub record AreJudgedTo (p : Program) (test : ℕ → Bool) (old now : MachineState) (n : ℕ) : Type 0 where
  pub same : now ≡ record old { ready = now.ready; left = now.left; marks = now.marks; waiting = now.waiting; least = now.least }
  pub rows : HasRows (length p) now
  pub judged : (k : ℕ) → k < n → test k ≡ true → IsJudged p now k
  pub later : (k : ℕ) → n ≤ k → IsAsBefore old now k
  pub others : (k : ℕ) → test k ≡ false → IsAsBefore old now k

pub none_judged : (p : Program) (test : ℕ → Bool) (old : MachineState) → HasRows (length p) old → AreJudgedTo p test old old 0
none_judged p test old rows = record {
  same = refl;
  rows = rows;
  judged = λ k h. absurd (omega arith);
  later = λ k h. record { mark = refl; ready = refl; left = refl; home = refl; least = λ j. omega arith };
  others = λ k h. record { mark = refl; ready = refl; left = refl; home = refl; least = λ j. omega arith };
}

as_before : (a b c : MachineState) (k : ℕ) → IsAsBefore a b k → IsAsBefore b c k → IsAsBefore a c k
as_before a b c k h j = record {
  mark = j.mark ∙ h.mark;
  ready = j.ready ∙ h.ready;
  left = j.left ∙ h.left;
  home = j.home ∙ h.home;
  least = λ list. omega (arith, j.least list, h.least list);
}

still_judged : (p : Program) (now new : MachineState) (k : ℕ) → new.configuration ≡ now.configuration → IsAsBefore now new k → IsJudged p now k → IsJudged p new k
still_judged p now new k same kept h = record {
  read = rw (same, kept.mark) h.read;
  all = rw (same, kept.mark) h.all;
  ready = kept.ready ∙ (h.ready ∙ ap (λ c. is_ready p c k) (sym same));
  left = kept.left ∙ (h.left ∙ ap (λ c. is_left p c k) (sym same));
  home = rw (same, kept.home) (home_if_lower p now.configuration now.least new.least k (home_of now.waiting.homes k) kept.least h.home);
}

module _ (p : Program) (test : ℕ → Bool) (old now : MachineState) (i : ℕ) (before : AreJudgedTo p test old now i) where
  pub ready_so_far : flag_of now.ready i ≡ flag_of old.ready i
  ready_so_far = (before.later i (omega arith)).ready

  pub read_so_far : IsRead p old.configuration i (mark_of old.marks i) → IsRead p now.configuration i (mark_of now.marks i)
  read_so_far read = rw (ap (λ (m : MachineState). m.configuration) before.same, (before.later i (omega arith)).mark) read

  pub left_so_far : (b : Bool) → (b ≡ true → flag_of old.left i ≡ true) → b ≡ true → flag_of now.left i ≡ true
  left_so_far b was is = (before.later i (omega arith)).left ∙ was is

  pub one_judged : (new : MachineState) → test i ≡ true → i < length p → IsPlaced p now new i → AreJudgedTo p test old new (i + 1)
  one_judged new tested agent placed =
      let config : new.configuration ≡ now.configuration = ap (λ (m : MachineState). m.configuration) placed.same in
      let same_now = placed.same in
      let same_old = before.same in
      record {
        same = subst (λ (m : MachineState). m ≡ record now { ready = m.ready; left = m.left; marks = m.marks; waiting = m.waiting; least = m.least }) (sym same_now) refl
            ∙ ap (λ (m : MachineState). record m { ready = new.ready; left = new.left; marks = new.marks; waiting = new.waiting; least = new.least }) same_old;
        rows = rows_if_placed p now new i before.rows agent placed;
        judged = λ k h tested. elim (cases_eq k i) [
          | inl same ↦ rw same (judged_if_placed p now new i before.rows agent placed)
          | inr other ↦ still_judged p now new k config (others_if_placed p now new i before.rows agent placed k other) (before.judged k (omega arith) tested)
        ];
        later = λ k h. let other : k ≢ i = omega arith in as_before old now new k (before.later k (omega arith)) (others_if_placed p now new i before.rows agent placed k other);
        others = λ k h.
            let other : k ≢ i = λ same. true≢false (sym tested ∙ (ap test (sym same) ∙ h)) in
            as_before old now new k (before.others k h) (others_if_placed p now new i before.rows agent placed k other);
      }

  pub one_passed : test i ≡ false → AreJudgedTo p test old now (i + 1)
  one_passed fails = record {
    same = before.same;
    rows = before.rows;
    judged = λ k h tested. elim (cases_eq k i) [
      | inl same ↦ absurd (true≢false (sym tested ∙ (ap test same ∙ fails)))
      | inr other ↦ before.judged k (omega arith) tested
    ];
    later = λ k h. before.later k (omega arith);
    others = before.others;
  }

pub some_passed : (p : Program) (test : ℕ → Bool) (old now : MachineState) (n i : ℕ) → n ≤ i → ((k : ℕ) → n ≤ k → k < i → test k ≡ false)
    → AreJudgedTo p test old now n → AreJudgedTo p test old now i
some_passed p test old now n i le fail before =
    onward (λ k. AreJudgedTo p test old now k) n i le (λ k from below h. one_passed p test old now k h (fail k from below)) before

-- how many of the agents below n pass the test
pub none_more_counted : (test : ℕ → Bool) (n i count : ℕ) → n ≤ i → ((k : ℕ) → n ≤ k → k < i → test k ≡ false)
    → count ≡ length (filter test (indices n)) → count ≡ length (filter test (indices i))
none_more_counted test n i count le fail before =
    onward (λ k. count ≡ length (filter test (indices k))) n i le
    (λ k from below h. rw (filter_more test k, fail k from below) (omega arith)) before

pub one_more_counted : (test : ℕ → Bool) (i count : ℕ) → test i ≡ true → count ≡ length (filter test (indices i)) → count + 1 ≡ length (filter test (indices (i + 1)))
one_more_counted test i count passes before = rw (filter_more test i, passes) (omega arith)

pub counted_le : (test : ℕ → Bool) (n : ℕ) → length (filter test (indices n)) ≤ n
counted_le test n = onward (λ k. length (filter test (indices k)) ≤ k) 0 n (omega arith) (λ k from below h. rw (filter_more test k) (one (test k) h)) (omega arith)
  where
    one : {m k : ℕ} (b : Bool) → m ≤ k → m + cond b 1 0 ≤ k + 1
    one true h = omega arith
    one false h = omega arith

-- ---- what the flags tell

module _ (p : Program) (m : MachineState) (runs : Runs p m) where
  left_is : (i : ℕ) → i < length p → flag_of m.left i ≡ false → nat_le (moves p i) (count_at m.configuration i) ≡ true
  left_is i agent flag =
      elim (cases_lt (count_at m.configuration i) (moves p i)) [
        | inl lt ↦ absurd (true≢false (sym (lt-ltb _ _ lt) ∙ (sym (runs.judged i agent).left ∙ flag)))
        | inr le ↦ le-leb _ _ le
      ]

  pub finished_if_none : AreNoneFrom m.left 0 → true ≡ is_finished p m.configuration
  finished_if_none none =
      sym (onward (λ k. list_all (λ i. nat_le (moves p i) (count_at m.configuration i)) (indices k) ≡ true) 0 (length p) (omega arith)
      (λ k from below h. rw (all_more (λ i. nat_le (moves p i) (count_at m.configuration i)) k, h) (left_is k below (none k from))) refl)

  pub not_finished_if_left : (i : ℕ) → IsNextFrom m.left 0 i → false ≡ is_finished p m.configuration
  not_finished_if_left i next =
      let agent : i < length p = omega (arith, next.agent, runs.rows.left) in
      not_finished_if p m.configuration i agent (ltb-true _ _ (sym (runs.judged i agent).left ∙ next.member))

  pub none_ready : AreNoneFrom m.ready 0 → false ≡ list_any (is_ready p m.configuration) (indices (length p))
  none_ready none =
      sym (onward (λ k. list_any (is_ready p m.configuration) (indices k) ≡ false) 0 (length p) (omega arith)
      (λ k from below h. none_more (is_ready p m.configuration) k (sym (runs.judged k below).ready ∙ none k from) h) refl)

  pub some_ready : (i : ℕ) → IsNextFrom m.ready 0 i → true ≡ list_any (is_ready p m.configuration) (indices (length p))
  some_ready i next =
      let agent : i < length p = omega (arith, next.agent, runs.rows.ready) in
      sym (any_at (is_ready p m.configuration) (length p) i agent (sym (runs.judged i agent).ready ∙ next.member))

  pub finished_is : (first : Option ℕ) (is_finished_now : Bool) → MatchOption first (AreNoneFrom m.left 0) (IsNextFrom m.left 0) → is_some first ≡ not is_finished_now
      → is_finished_now ≡ is_finished p m.configuration
  finished_is None true none is = finished_if_none none
  finished_is None false none is = absurd cc
  finished_is (Some i) false next is = not_finished_if_left i next
  finished_is (Some i) true next is = absurd cc

  pub any_ready_is : (first : Option ℕ) → MatchOption first (AreNoneFrom m.ready 0) (IsNextFrom m.ready 0)
      → is_some first ≡ list_any (is_ready p m.configuration) (indices (length p))
  any_ready_is None none = none_ready none
  any_ready_is (Some i) next = some_ready i next
