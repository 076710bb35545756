-- Steps of a tick.
use Rattle.std.specs.Prelude.{◌≡◌, ℕ, ◌+◌, ◌<◌, ◌≤◌, Bool, true, false, ◌||◌, ◌&&◌, List, length, filter, set, option_map, Option, Some, None, if◌then◌else◌}
use Rattle.fleet_model.specs.declared.program.Await.{Await}
use Rattle.fleet_model.specs.Program.{Program, IsWellFormed}
use Rattle.fleet_model.specs.Machine.{is_ready, tick, moved_in, is_ready_held, indices}
use Rattle.fleet_machine.specs.WaitLists.{home_of}
use Rattle.fleet_machine.specs.declared.steps.Mark.{Mark}
use Rattle.fleet_machine.specs.declared.machine.Tick.{Tick}
use Rattle.fleet_machine.specs.Machine.{MachineState, Runs, HasRows, IsJudged, flag_of, mark_of, is_left, IsLacked, IsRead, HasReadAll, is_reached, least_of, list_of, agent_of, lowered, passed, after_next, marks_after, moving_flags}
use Rattle.fleet_machine.specs.Looked.{ready_in, awaiting_in, LooksAt}
use Rattle.fleet_machine.specs.Confirmed.{all_but}

-- the list is one of these
abbrev pub is_on : (ℕ → Bool) → Option ℕ → Bool
is_on lists None = false
is_on lists (Some j) = lists j

-- the list, unless it is one of these
abbrev pub if_not_on : (ℕ → Bool) → Option ℕ → Option ℕ
if_not_on lists home = if is_on lists home then None else home

-- each agent that stood in these lists stands in none and is due, and nothing else is changed but the least counts of
-- these lists
pub record IsWoken (lists : ℕ → Bool) (before after : MachineState) : Type 0 where
  pub same : after ≡ record before {
    due = after.due;
    waiting = record before.waiting { homes = after.waiting.homes };
    least = after.least;
  }
  pub long_due : length after.due ≡ length before.due
  pub long_least : length after.least ≡ length before.least
  pub long_homes : length after.waiting.homes ≡ length before.waiting.homes
  pub homes : (i : ℕ) → home_of after.waiting.homes i ≡ if_not_on lists (home_of before.waiting.homes i)
  pub due : (i : ℕ) → i < length before.due
      → flag_of after.due i ≡ (flag_of before.due i || is_on lists (home_of before.waiting.homes i))
  pub least : (j : ℕ) → lists j ≡ false → least_of after.least j ≡ least_of before.least j

-- the lists of the agents that the tick moves, if a count is reached for which an agent in the list may wait
abbrev pub is_woken_by : MachineState → ℕ → Bool
is_woken_by m j = flag_of m.moving (agent_of j) && is_reached m j

-- agent i has finished its next action
abbrev pub advanced_one : Program → MachineState → ℕ → MachineState
advanced_one p m i = record m {
  configuration = set m.configuration i (after_next p m.configuration i);
  marks = set m.marks i (passed (mark_of m.marks i));
}

-- agent i, which is ready, is held: the tick under way does not move it
abbrev pub held_back : MachineState → ℕ → MachineState
held_back m i = record m { moving = set m.moving i false; due = set m.due i false }

-- the agents that are flagged as moving have finished their next actions
abbrev pub carried_all : Program → MachineState → MachineState
carried_all p m = record m {
  configuration = tick p (all_but (flag_of m.moving)) m.configuration;
  marks = marks_after p (all_but (flag_of m.moving)) m;
}

-- the agents that a tick moves have moved, and are due, and nothing else is done yet of the tick in which these are
-- held
abbrev pub after_moves : Program → (held : ℕ → Bool) → MachineState → MachineState
after_moves p held m = record m {
  configuration = tick p held m.configuration;
  marks = marks_after p held m;
  moving = moving_flags p held m.configuration;
  due = moving_flags p held m.configuration;
}

-- .. and all are taken off the lists of those that moved, if the lists are reached
pub record HasWoken (p : Program) (held : ℕ → Bool) (before after : MachineState) : Type 0 where
  pub runs : Runs p before
  pub woken : IsWoken (is_woken_by (after_moves p held before)) (after_moves p held before) after

-- after the tick in which these are held the machine runs the program, and so many agents were judged: those that it
-- moved, and some of those that await one of them
pub record IsCarriedOut (p : Program) (held : ℕ → Bool) (before after : MachineState) (judged : ℕ) : Type 0 where
  pub runs : Runs p after
  pub configuration : after.configuration ≡ tick p held before.configuration
  pub moving : after.moving ≡ moving_flags p held before.configuration
  pub looked : after.looked ≡ before.looked
  pub least : moved_in p held before.configuration ≤ judged
  pub most : judged ≤ moved_in p held before.configuration + awaiting_in p held before.configuration
  pub few : judged ≤ length p

-- agent i is flagged anew, has read as far as it can, and stands in the list in which it belongs; nothing else is
-- changed
pub record IsPlaced (p : Program) (before after : MachineState) (i : ℕ) : Type 0 where
  pub lacked : Option Await
  pub belongs : IsLacked p before.configuration i lacked
  pub mark : Mark
  pub read : IsRead p before.configuration i mark
  pub all : HasReadAll p before.configuration i mark
  pub same : after ≡ record before {
    ready = set before.ready i (is_ready p before.configuration i);
    left = set before.left i (is_left p before.configuration i);
    marks = set before.marks i mark;
    waiting = record before.waiting { homes = set before.waiting.homes i (option_map list_of lacked) };
    least = lowered before.least lacked;
  }

-- agent i is flagged, has read and stands as before, and no least count rose
pub record IsAsBefore (before after : MachineState) (i : ℕ) : Type 0 where
  pub mark : mark_of after.marks i ≡ mark_of before.marks i
  pub ready : flag_of after.ready i ≡ flag_of before.ready i
  pub left : flag_of after.left i ≡ flag_of before.left i
  pub home : home_of after.waiting.homes i ≡ home_of before.waiting.homes i
  pub least : (j : ℕ) → least_of after.least j ≤ least_of before.least j

-- the agents that are due can be judged: each agent has read what it is to have read, who has an action left is flagged
-- so, and who is due stands in no list
pub record CanJudge (p : Program) (m : MachineState) : Type 0 where
  pub well_formed : IsWellFormed p
  pub agents : length m.configuration ≡ length p
  pub rows : HasRows (length p) m
  pub read : (i : ℕ) → i < length p → IsRead p m.configuration i (mark_of m.marks i)
  pub flagged : (i : ℕ) → i < length p → is_left p m.configuration i ≡ true → flag_of m.left i ≡ true
  pub nowhere : (i : ℕ) → flag_of m.due i ≡ true → home_of m.waiting.homes i ≡ None

-- agent i is supposed to be ready until it is judged, has read so far, is flagged if it is left, and stands in no list
pub record IsSupposed (p : Program) (m : MachineState) (i : ℕ) : Type 0 where
  pub read : IsRead p m.configuration i (mark_of m.marks i)
  pub flagged : is_left p m.configuration i ≡ true → flag_of m.left i ≡ true
  pub ready : flag_of m.ready i ≡ true
  pub nowhere : home_of m.waiting.homes i ≡ None

-- the agents that were due are judged, so many, and each other agent is as before
pub record HasJudged (p : Program) (before after : MachineState) (number : ℕ) : Type 0 where
  pub same : after ≡ record before {
    ready = after.ready;
    left = after.left;
    marks = after.marks;
    waiting = after.waiting;
    least = after.least;
  }
  pub rows : HasRows (length p) after
  pub judged : (i : ℕ) → i < length p → flag_of before.due i ≡ true → IsJudged p after i
  pub others : (i : ℕ) → flag_of before.due i ≡ false → IsAsBefore before after i
  pub count : number ≡ length (filter (flag_of before.due) (indices (length p)))

-- one tick in which these agents are held, with this outcome
pub record Ticks (p : Program) (holds : ℕ → Bool) (old new : MachineState) (outcome : Tick) : Type 0 where
  pub runs : Runs p new
  pub after : new.configuration ≡ tick p holds old.configuration
  pub moving : new.moving ≡ moving_flags p holds old.configuration
  pub moved : outcome.moved ≡ moved_in p holds old.configuration
  pub held : outcome.ready_held ≡ is_ready_held p holds old.configuration
  pub looked : LooksAt (ready_in p old.configuration) (awaiting_in p holds old.configuration) old.looked new.looked

-- one tick in which the flagged agents move, and all others are held
pub record TicksWith (p : Program) (flags : List Bool) (old new : MachineState) : Type 0 where
  pub runs : Runs p new
  pub after : new.configuration ≡ tick p (all_but (flag_of flags)) old.configuration
  pub moving : new.moving ≡ flags
  pub looked : LooksAt (moved_in p (all_but (flag_of flags)) old.configuration) (awaiting_in p (all_but (flag_of flags)) old.configuration) old.looked new.looked
