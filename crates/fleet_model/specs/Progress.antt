-- How a run comes on: what a tick finishes, and by when each action is finished.
use Rattle.std.specs.Prelude.{◌≢◌, ℕ, ◌+◌, ◌≤◌, IsFalse}
use Rattle.fleet_model.specs.declared.program.ActionId.{ActionId}
use Rattle.fleet_model.specs.Program.{Program}
use Rattle.fleet_model.specs.Machine.{Configuration, Holds, is_held, is_ready_held, held_ticks, run, IsDone, IsDue}
use Rattle.fleet_model.specs.Chain.{IsAction, Reaches, IsCriticalCost, IsLevel}
use Rattle.fleet_model.specs.RunSchedule.{IsFinishedIn, ticks_taken}

-- the action is unfinished, and no unfinished one has a lesser level
pub record IsOfLeastLevel (p : Program) (c : Configuration) (a : ActionId) : Type 0 where
  pub action : IsAction p a
  pub unfinished : IsDone c a → ⊥
  pub least : (b : ActionId) (m n : ℕ) → IsAction p b → (IsDone c b → ⊥)
      → IsLevel p a m → IsLevel p b n → m ≤ n

-- after t ticks the unfinished actions of the least level are ready; the next tick finishes them all if it holds no
-- ready agent; and it finishes no two actions of one chain
pub record Progresses (p : Program) (holds : Holds) (t : ℕ) : Type 0 where
  pub ready : (a : ActionId) → IsOfLeastLevel p (run p holds t) a → IsDue p (run p holds t) a
  pub finished : IsFalse (is_ready_held p (is_held holds t) (run p holds t))
      → (a : ActionId) → IsOfLeastLevel p (run p holds t) a → IsDone (run p holds (t + 1)) a
  pub one_of_a_chain : (a b : ActionId) → Reaches p a b → a ≢ b
      → IsFinishedIn p holds t a → IsFinishedIn p holds t b → ⊥

-- some tick finishes the action: the one in which its critical path ends, if each action costs the ticks that it takes;
-- so not before that of its level, and later by no more than the ticks before in which some ready agent was held
pub record IsFinishedInTime (p : Program) (holds : Holds) (a : ActionId) : Type 0 where
  pub tick : ℕ
  pub finished : IsFinishedIn p holds tick a
  pub critical : IsCriticalCost p (ticks_taken p holds) a (tick + 1)
  pub level : ℕ
  pub is_level : IsLevel p a level
  pub no_sooner : level ≤ tick + 1
  pub in_time : tick + 1 ≤ level + held_ticks p holds tick
