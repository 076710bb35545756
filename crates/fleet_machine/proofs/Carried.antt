-- Agents that carry out their orders, one after another.
use Rattle.std.proofs.Common.{◌≡◌, ◌≢◌, ◌<◌, ◌≤◌, ℕ, ◌+◌, Bool, true, false, List, [], length, set, refl, ap, sym, ◌∙◌, inl, inr, arith, get_or-set_same, get_or-set_other, length-set}
use Rattle.std.proofs.lemmas.Bool.{cases_eq, cases_lt, cases_Bool}
use Rattle.std.proofs.lemmas.List.FromFn.{fill_by_all}
use Rattle.std.proofs.Math.Bool.{and-false}
use Rattle.fleet_model.specs.declared.standing.Standing.{Standing}
use Rattle.fleet_model.specs.Program.{Program, moves}
use Rattle.fleet_model.specs.Machine.{Configuration, standing_at, count_at, is_ready, is_moving, standing_after, tick}
use Rattle.fleet_model.proofs.Tick.{ready_left}
use Rattle.fleet_machine.specs.AgentSet.{AreNoneFrom, IsNextFrom}
use Rattle.fleet_machine.specs.Confirmed.{all_but, AreAllReady}
use Rattle.fleet_machine.specs.declared.steps.Mark.{Mark}
use Rattle.fleet_machine.specs.Machine.{MachineState, flag_of, mark_of, passed, after_next, marks_after, moving_flags}
use Rattle.fleet_machine.proofs.Marks.{ArePassedTo, none_passed, all_stay, all_passed}
use Rattle.fleet_machine.proofs.Marks.{one_moves as mark_moves}
use Rattle.fleet_machine.specs.Waking.{advanced_one, carried_all, after_moves}
use Rattle.fleet_machine.proofs.Advanced.{after_move, stays}

-- the flagged agents below n have moved, and all others stand where they stood
pub record AreCarried (p : Program) (flags : List Bool) (old rows : Configuration) (n : ℕ) : Type 0 where
  pub done : (k : ℕ) → k < n → standing_at rows k ≡ standing_after p (all_but (flag_of flags)) old k
  pub rest : (k : ℕ) → n ≤ k → standing_at rows k ≡ standing_at old k
  pub long : length rows ≡ length p

pub none_carried : (p : Program) (done : List Bool) (old : Configuration) → length old ≡ length p → AreCarried p done old old 0
none_carried p done old long = record { done = λ k lt. absurd (omega arith); rest = λ k ge. refl; long = long }

module _ (p : Program) (done : List Bool) (old : Configuration) (sent : AreAllReady p old (flag_of done)) where
  moves_if : (k : ℕ) → k < length p → flag_of done k ≡ true → is_moving p (all_but (flag_of done)) old k ≡ true
  moves_if k agent flag = rw (sent k agent flag, flag) refl

  stays_if : (k : ℕ) → flag_of done k ≡ false → is_moving p (all_but (flag_of done)) old k ≡ false
  stays_if k flag = rw flag (and-false (is_ready p old k))

  -- those that are flagged are those that the tick moves
  pub all_moving : length done ≡ length p → done ≡ moving_flags p (all_but (flag_of done)) old
  all_moving long =
      fill_by_all (is_moving p (all_but (flag_of done)) old) done (length p) false long
      (λ k agent.
      elim (cases_Bool (flag_of done k)) [
        | inl flag ↦ flag ∙ sym (moves_if k agent flag)
        | inr flag ↦ flag ∙ sym (stays_if k flag)
      ])

  module _ (rows : Configuration) (from : ℕ) (before : AreCarried p done old rows from) where
    pub left_if_next : (i : ℕ) → i < length p → IsNextFrom done from i → count_at rows i < moves p i
    left_if_next i agent next =
        let left = ready_left p old i (sent i agent next.member) in
        let same : count_at rows i ≡ count_at old i = ap (λ (s : Standing). s.count) (before.rest i next.later) in
        omega arith

    -- who is not flagged is passed over
    passed_over : (k : ℕ) → from ≤ k → flag_of done k ≡ false → standing_at rows k ≡ standing_after p (all_but (flag_of done)) old k
    passed_over k later flag = before.rest k later ∙ stays p (all_but (flag_of done)) old k (stays_if k flag)

    pub one_carried : (i : ℕ) → i < length p → IsNextFrom done from i → AreCarried p done old (set rows i (after_next p rows i)) (i + 1)
    one_carried i agent next =
        let later = next.later in
        let s = after_next p rows i in
        let inside : i < length rows = omega (arith, before.long) in
        record {
          done = λ k lt. elim (cases_eq k i) [
            | inl same ↦ rw same (get_or-set_same rows i s (standing_at [] 0) inside ∙ after_move p (all_but (flag_of done)) old rows i (moves_if i agent next.member) (before.rest i later))
            | inr other ↦ get_or-set_other rows i k s (standing_at [] 0) other ∙ elim (cases_lt k from) [
              | inl below ↦ before.done k below
              | inr above ↦ passed_over k above (next.between k above (omega arith))
            ]
          ];
          rest = λ k ge. let other : k ≢ i = omega arith in get_or-set_other rows i k s (standing_at [] 0) other ∙ before.rest k (omega arith);
          long = length-set rows i s ∙ before.long;
        }

    pub all_carried : AreNoneFrom done from → rows ≡ tick p (all_but (flag_of done)) old
    all_carried none =
        fill_by_all (standing_after p (all_but (flag_of done)) old) rows (length p) (standing_at [] 0) before.long
        (λ k agent.
        elim (cases_lt k from) [
          | inl below ↦ before.done k below
          | inr above ↦ passed_over k above (none k above)
        ])

-- the marks of the flagged agents
module _ (p : Program) (old : MachineState) (sent : AreAllReady p old.configuration (flag_of old.moving)) (marks : List Mark) (from : ℕ)
    (before : ArePassedTo p (all_but (flag_of old.moving)) old marks from) where
  pub one_read : (i : ℕ) → i < length p → IsNextFrom old.moving from i → ArePassedTo p (all_but (flag_of old.moving)) old (set marks i (passed (mark_of marks i))) (i + 1)
  one_read i agent next =
      mark_moves p (all_but (flag_of old.moving)) old marks i agent (moves_if p old.moving old.configuration sent i agent next.member)
      (all_stay p (all_but (flag_of old.moving)) old marks from i next.later (λ k later below. stays_if p old.moving old.configuration sent k (next.between k later below)) before)

  pub all_read : from ≤ length p → AreNoneFrom old.moving from → marks ≡ marks_after p (all_but (flag_of old.moving)) old
  all_read within none =
      all_passed p (all_but (flag_of old.moving)) old marks
      (all_stay p (all_but (flag_of old.moving)) old marks from (length p) within (λ k later below. stays_if p old.moving old.configuration sent k (none k later)) before)

-- the flagged agents below n have moved, and have begun to read their next actions
pub record IsCarriedTo (p : Program) (old now : MachineState) (n : ℕ) : Type 0 where
  pub same : now ≡ record old { configuration = now.configuration; marks = now.marks }
  pub passes : ArePassedTo p (all_but (flag_of old.moving)) old now.marks n
  pub carried : AreCarried p old.moving old.configuration now.configuration n
  pub within : n ≤ length p

pub none_carried_yet : (p : Program) (old : MachineState) → length old.configuration ≡ length p → length old.marks ≡ length p → IsCarriedTo p old old 0
none_carried_yet p old long marks = record {
  same = refl;
  passes = none_passed p (all_but (flag_of old.moving)) old marks;
  carried = none_carried p old.moving old.configuration long;
  within = omega arith;
}

module _ (p : Program) (old : MachineState) (sent : AreAllReady p old.configuration (flag_of old.moving)) (now : MachineState) (from : ℕ) (before : IsCarriedTo p old now from) where
  pub one_on : (i : ℕ) → i < length p → IsNextFrom old.moving from i → IsCarriedTo p old (advanced_one p now i) (i + 1)
  one_on i agent next = record {
    same = ap (λ (m : MachineState). record m { configuration = set now.configuration i (after_next p now.configuration i); marks = set now.marks i (passed (mark_of now.marks i)) }) before.same;
    passes = one_read p old sent now.marks from before.passes i agent next;
    carried = one_carried p old.moving old.configuration sent now.configuration from before.carried i agent next;
    within = omega (arith, agent);
  }

  pub all_on : AreNoneFrom old.moving from → now ≡ carried_all p old
  all_on none =
      before.same
      ∙ (ap (λ (rows : Configuration). record old { configuration = rows; marks = now.marks }) (all_carried p old.moving old.configuration sent now.configuration from before.carried none)
      ∙ ap (λ (marks : List Mark). record old { configuration = tick p (all_but (flag_of old.moving)) old.configuration; marks = marks }) (all_read p old sent now.marks from before.passes before.within none))

-- the flagged agents were chosen, and have moved
pub chosen_moved : (p : Program) (done : List Bool) (old chosen : MachineState) → AreAllReady p old.configuration (flag_of done) → length done ≡ length p
    → chosen ≡ record old { moving = done; due = done } → carried_all p chosen ≡ after_moves p (all_but (flag_of done)) old
chosen_moved p done old chosen sent long choice =
    ap (carried_all p) choice
    ∙ ap (λ (flags : List Bool). record old { configuration = tick p (all_but (flag_of done)) old.configuration; marks = marks_after p (all_but (flag_of done)) old; moving = flags; due = flags })
    (all_moving p done old.configuration sent long)
