-- An agent that is flagged anew, and put into a list or not.
use Rattle.std.proofs.Common.{◌≡◌, ◌<◌, ◌≤◌, ◌&&◌, ℕ, true, false, Option, Some, None, set, ap, sym, ◌∙◌}
use Rattle.std.specs.Prelude.{is_none, IfSome}
use Rattle.std.proofs.lemmas.Bool.{lt-ltb, le-ltb}
use Rattle.std.proofs.lemmas.List.{set-get_or}
use Rattle.std.proofs.Math.Bool.{true≢false}
use Rattle.fleet_model.specs.declared.program.Await.{Await}
use Rattle.fleet_model.specs.Program.{Program, moves}
use Rattle.fleet_model.specs.Machine.{count_at, is_ready}
use Rattle.fleet_machine.specs.declared.steps.Mark.{Mark}
use Rattle.fleet_machine.specs.Machine.{MachineState, HasReadAll, IsLacked, IsRead, is_left, flag_of, mark_of, unread, list_of, lowered}
use Rattle.fleet_machine.specs.WaitLists.{home_of}
use Rattle.fleet_machine.specs.Waking.{IsPlaced}
use Rattle.fleet_machine.proofs.Ready.{no_action_left}

module _ (p : Program) (m new : MachineState) (i : ℕ) (nowhere : home_of m.waiting.homes i ≡ None) where
  -- who stands in no list is taken off none
  home_same : set m.waiting.homes i None ≡ m.waiting.homes
  home_same = ap (λ (h : Option ℕ). set m.waiting.homes i h) (sym nowhere) ∙ set-get_or m.waiting.homes i None

  pub placed_at_end : moves p i ≤ count_at m.configuration i → IsRead p m.configuration i (mark_of m.marks i)
      → new ≡ record m { ready = set m.ready i false; left = set m.left i false } → IsPlaced p m new i
  placed_at_end le read is =
      let none = no_action_left p m.configuration i le in
      record {
        lacked = None;
        belongs = rw (le-ltb (count_at m.configuration i) (moves p i) le) none;
        mark = mark_of m.marks i;
        read = read;
        all = λ ready. absurd (true≢false (sym ready ∙ none));
        same = rw (none, le-ltb (count_at m.configuration i) (moves p i) le, set-get_or m.marks i unread, home_same) is;
      }

  module _ (left : count_at m.configuration i < moves p i) (flagged : is_left p m.configuration i ≡ true → flag_of m.left i ≡ true)
      (mark : Mark) (read : IsRead p m.configuration i mark) (all : HasReadAll p m.configuration i mark) where
    is_left_now : is_left p m.configuration i ≡ true
    is_left_now = lt-ltb (count_at m.configuration i) (moves p i) left

    left_same : set m.left i true ≡ m.left
    left_same = ap (λ b. set m.left i b) (sym (flagged is_left_now)) ∙ set-get_or m.left i false

    ready_same : flag_of m.ready i ≡ true → set m.ready i true ≡ m.ready
    ready_same was = ap (λ b. set m.ready i b) (sym was) ∙ set-get_or m.ready i false

    pub placed_ready : (lacked : Option Await) → lacked ≡ None → IsLacked p m.configuration i lacked
        → is_ready p m.configuration i ≡ (is_left p m.configuration i && is_none lacked)
        → flag_of m.ready i ≡ true → new ≡ record m { marks = set m.marks i mark } → IsPlaced p m new i
    placed_ready None e belongs ready was is =
        let now : is_ready p m.configuration i ≡ true = rw is_left_now at ready in
        record {
          lacked = None;
          belongs = belongs;
          mark = mark;
          read = read;
          all = all;
          same = rw (now, is_left_now, left_same, ready_same was, home_same) is;
        }
    placed_ready (Some w) e belongs ready was is = absurd (cc e)

    pub placed_in_list : (lacked : Option Await) (w : Await) → lacked ≡ Some w → IfSome lacked (λ _. mark ≡ record (mark_of m.marks i) { met = mark.met }) → IsLacked p m.configuration i lacked
        → is_ready p m.configuration i ≡ (is_left p m.configuration i && is_none lacked)
        → new ≡ record m {
          marks = set m.marks i (record (mark_of m.marks i) { met = mark.met });
          ready = set m.ready i false;
          waiting = record m.waiting { homes = set m.waiting.homes i (Some (list_of w)) };
          least = lowered m.least (Some w);
        } → IsPlaced p m new i
    placed_in_list None w e kept belongs ready is = absurd (cc e)
    placed_in_list (Some v) w e kept belongs ready is =
        let now : is_ready p m.configuration i ≡ false = rw is_left_now at ready in
        let same : v ≡ w = cc in
        record {
          lacked = Some v;
          belongs = belongs;
          mark = mark;
          read = read;
          all = all;
          same = rw (now, is_left_now, left_same, same, kept) is;
        }
