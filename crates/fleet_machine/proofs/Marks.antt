-- How far agents have read.
use Rattle.std.proofs.Common.{◌≡◌, ◌≢◌, ◌<◌, ◌≤◌, ℕ, ◌+◌, not, Bool, true, false, List, zero, suc, replicate, length, set, take, refl, ap, sym, ◌∙◌, subst, inl, inr, arith, below_more, get_or-set_same, get_or-set_other, length-set}
use Rattle.std.proofs.lemmas.Bool.{cases_Bool, lt-ltb, ltb-true, and_parts}
use Rattle.std.proofs.lemmas.List.FromFn.{fill_by_all, get_or-map-range_with_len, length-map-range_with_len}
use Rattle.fleet_model.specs.declared.standing.Standing.{Standing}
use Rattle.fleet_model.specs.Program.{Program, IsWellFormed, moves, awaits_of, awaits_before}
use Rattle.fleet_model.specs.Machine.{Configuration, count_at, is_met, is_ready, is_moving, tick}
use Rattle.fleet_model.proofs.Tick.{standing_at_tick, other_stays, ready_left}
use Rattle.fleet_model.proofs.Totals.{actions_more, actions_fit}
use Rattle.fleet_machine.specs.declared.steps.Mark.{Mark}
use Rattle.fleet_machine.specs.Machine.{MachineState, Runs, IsRead, IsReadToStep, unread, mark_of, flag_of, is_left, passed, mark_after, marks_after}
use Rattle.fleet_machine.proofs.Advanced.{onward}
use Rattle.fleet_machine.proofs.Ready.{has_next}
use Rattle.fleet_machine.proofs.Lasting.{all_still, met_lasts, count_lasts}

-- who is ready has read up to its step
pub read_to_step : (p : Program) (m : MachineState) (i : ℕ) → Runs p m → i < length p → is_ready p m.configuration i ≡ true → IsReadToStep p m.configuration i (mark_of m.marks i)
read_to_step p m i runs agent ready = let here = runs.judged i agent in record { before = here.read.before; through = here.all ready }

-- the number of awaits before an action fits
pub passed_fits : (p : Program) (c : Configuration) (i : ℕ) (mark : Mark) → IsWellFormed p → IsReadToStep p c i mark → mark.before + mark.met < 4294967296
passed_fits p c i mark ok read =
    let fit = actions_fit p i (count_at c i) ok in
    omega (arith, fit, read.before, read.through.all)

-- ---- the start

pub mark_of_nobody : (n i : ℕ) → mark_of (replicate n unread) i ≡ unread
mark_of_nobody zero i = refl
mark_of_nobody (suc n) zero = refl
mark_of_nobody (suc n) (suc i) = mark_of_nobody n i

pub all_flags : (n i : ℕ) → i < n → flag_of (replicate n true) i ≡ true
all_flags zero i lt = absurd (omega arith)
all_flags (suc n) zero lt = refl
all_flags (suc n) (suc i) lt = all_flags n i (omega arith)

-- who has finished nothing has read nothing
pub read_nothing : (p : Program) (c : Configuration) (i : ℕ) (mark : Mark) → mark ≡ unread → count_at c i ≡ 0 → IsRead p c i mark
read_nothing p c i mark e none =
    let before : 0 ≡ awaits_before p i (count_at c i) = ap (λ (n : ℕ). awaits_before p i n) (sym none) in
    subst (λ (m : Mark). IsRead p c i m) (sym e) (record { before = before; few = omega arith; met = refl })

-- ---- a tick

-- the agents below n that the tick moves have begun to read their next actions
pub record ArePassedTo (p : Program) (held : ℕ → Bool) (old : MachineState) (marks : List Mark) (n : ℕ) : Type 0 where
  pub done : (k : ℕ) → k < n → mark_of marks k ≡ mark_after p held old k
  pub rest : (k : ℕ) → n ≤ k → mark_of marks k ≡ mark_of old.marks k
  pub long : length marks ≡ length p

pub none_passed : (p : Program) (held : ℕ → Bool) (old : MachineState) → length old.marks ≡ length p → ArePassedTo p held old old.marks 0
none_passed p held old long = record { done = λ k lt. absurd (omega arith); rest = λ k ge. refl; long = long }

module _ (p : Program) (held : ℕ → Bool) (old : MachineState) where
  mark_stays : (k : ℕ) → is_moving p held old.configuration k ≡ false → mark_of old.marks k ≡ mark_after p held old k
  mark_stays k flag = rw flag refl

  mark_moves : (k : ℕ) → is_moving p held old.configuration k ≡ true → passed (mark_of old.marks k) ≡ mark_after p held old k
  mark_moves k flag = rw flag refl

  pub one_stays : (marks : List Mark) (i : ℕ) → is_moving p held old.configuration i ≡ false → ArePassedTo p held old marks i → ArePassedTo p held old marks (i + 1)
  one_stays marks i flag before = record {
    done = below_more (λ k. mark_of marks k ≡ mark_after p held old k) i before.done (before.rest i (omega arith) ∙ mark_stays i flag);
    rest = λ k h. before.rest k (omega arith);
    long = before.long;
  }

  pub one_moves : (marks : List Mark) (i : ℕ) → i < length p → is_moving p held old.configuration i ≡ true → ArePassedTo p held old marks i → ArePassedTo p held old (set marks i (passed (mark_of marks i))) (i + 1)
  one_moves marks i agent flag before =
      let inside : i < length marks = omega (arith, before.long) in
      let new = passed (mark_of marks i) in
      record {
        done = below_more (λ k. mark_of (set marks i new) k ≡ mark_after p held old k) i
            (λ k h. let other : k ≢ i = omega arith in get_or-set_other marks i k new unread other ∙ before.done k h)
            (get_or-set_same marks i new unread inside ∙ (ap passed (before.rest i (omega arith)) ∙ mark_moves i flag));
        rest = λ k h. let other : k ≢ i = omega arith in get_or-set_other marks i k new unread other ∙ before.rest k (omega arith);
        long = length-set marks i new ∙ before.long;
      }

  pub all_stay : (marks : List Mark) (n i : ℕ) → n ≤ i → ((k : ℕ) → n ≤ k → k < i → is_moving p held old.configuration k ≡ false) → ArePassedTo p held old marks n → ArePassedTo p held old marks i
  all_stay marks n i le still before = onward (λ k. ArePassedTo p held old marks k) n i le (λ k from below h. one_stays marks k (still k from below) h) before

  pub all_passed : (marks : List Mark) → ArePassedTo p held old marks (length p) → marks ≡ marks_after p held old
  all_passed marks all = fill_by_all (mark_after p held old) marks (length p) unread all.long (λ k h. all.done k h)

  pub long_after : length (marks_after p held old) ≡ length p
  long_after = length-map-range_with_len (mark_after p held old) 0 (length p)

  pub mark_is : (k : ℕ) → k < length p → mark_of (marks_after p held old) k ≡ mark_after p held old k
  mark_is k agent = get_or-map-range_with_len (mark_after p held old) 0 (length p) k k unread agent (omega arith)

  pub mark_unmoved : (k : ℕ) → k < length p → is_moving p held old.configuration k ≡ false → mark_of (marks_after p held old) k ≡ mark_of old.marks k
  mark_unmoved k agent still = mark_is k agent ∙ sym (mark_stays k still)

-- after a tick each has read what it is to have read
module _ (p : Program) (held : ℕ → Bool) (m : MachineState) (runs : Runs p m) (k : ℕ) (agent : k < length p) where
  read_unmoved : is_moving p held m.configuration k ≡ false → IsRead p (tick p held m.configuration) k (mark_of m.marks k)
  read_unmoved still =
      let c = m.configuration in
      let read = (runs.judged k agent).read in
      let same : count_at (tick p held c) k ≡ count_at c k = ap (λ (s : Standing). s.count) (standing_at_tick p held c k agent ∙ other_stays p held c k still) in
      record {
        before = rw same read.before;
        few = rw same read.few;
        met = rw same (all_still (is_met c) (is_met (tick p held c)) (met_lasts p held c runs.agents) (take (mark_of m.marks k).met (awaits_of p k (count_at c k + 1))) read.met);
      }

  read_moved : is_moving p held m.configuration k ≡ true → is_ready p m.configuration k ≡ true → IsRead p (tick p held m.configuration) k (passed (mark_of m.marks k))
  read_moved moves ready =
      let c = m.configuration in
      let here = runs.judged k agent in
      let next = has_next p c k (ready_left p c k ready) in
      let more = actions_more p k (count_at c k) in
      let all = (here.all ready).all in
      let same : count_at (tick p held c) k ≡ count_at c k + 1 = ap (λ (s : Standing). s.count) (standing_at_tick p held c k agent) ∙ rw (moves, next.1.next) refl in
      record {
        before = rw same (omega (arith, more, all, here.read.before));
        few = omega arith;
        met = refl;
      }

  pub read_after : IsRead p (tick p held m.configuration) k (mark_of (marks_after p held m) k)
  read_after =
      elim (cases_Bool (is_moving p held m.configuration k)) [
        | inl moves ↦ rw (mark_is p held m k agent, moves) (read_moved moves (and_parts (is_ready p m.configuration k) (not (held k)) moves).0)
        | inr still ↦ rw (mark_is p held m k agent, still) (read_unmoved still)
      ]

-- who has an action left after a tick had one before
pub flagged_after : (p : Program) (held : ℕ → Bool) (m : MachineState) → Runs p m → (k : ℕ) → k < length p → is_left p (tick p held m.configuration) k ≡ true → flag_of m.left k ≡ true
flagged_after p held m runs k agent left =
    let after = ltb-true _ _ left in
    let lasts = count_lasts p held m.configuration runs.agents k in
    (runs.judged k agent).left ∙ lt-ltb _ _ (omega (arith, after, lasts))
