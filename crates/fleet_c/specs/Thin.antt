-- An accepted program of bytes without its implied awaits.
use Rattle.std.specs.Prelude.{◌≡◌, ℕ, List}
use Rattle.fleet_model.specs.declared.task.Task.{Task}
use Rattle.fleet_model.specs.Program.{Program}
use Rattle.fleet_model.specs.Chain.{IsLongestChain}
use Rattle.fleet_model.specs.Accepted.{IsAccepted}
use Rattle.fleet_grid.specs.Ground.{Ground, is_passable}
use Rattle.fleet_verify.specs.Reduced.{IsThinned, RunEqually, HasLeastAwaits}
use Rattle.fleet_code.specs.Spelling.{SpellsShortest}
use Rattle.fleet_c.specs.declared.answer.TheConstants.{DONE}
use Rattle.fleet_c.specs.Texts.{AreTextsOf}
use Rattle.fleet_c.specs.Verify.{Accepts}

-- The bytes spell a program that is accepted for the ground and the tasks. This one is it without its implied awaits:
-- it is accepted too, has the same longest chain, runs equally, and has the least awaits of all programs with its
-- chains
pub record IsThinProgram (g : Ground) (tasks : List Task) (bytes : List ℕ) (thinned : Program) : Type 0 where
  pub program : Program
  pub chain : ℕ
  pub accepts : Accepts g tasks bytes program chain
  pub is : IsThinned program thinned
  pub accepted : IsAccepted (is_passable g) tasks thinned
  pub longest : IsLongestChain thinned chain
  pub equally : RunEqually program thinned
  pub least : HasLeastAwaits program thinned

-- the texts stand for a map and for tasks, and the bytes that are written spell such a program, in version 1 if that
-- has bytes for it
pub record ThinsTexts (map scen : List ℕ) (agents : ℕ) (bytes written : List ℕ) : Type 0 where
  pub ground : Ground
  pub tasks : List Task
  pub texts : AreTextsOf map scen agents ground tasks
  pub thinned : Program
  pub thin : IsThinProgram ground tasks bytes thinned
  pub spelled : SpellsShortest written thinned

-- the bytes of the thinned program of such texts (ThinsTexts), with the status of a call that answers
abbrev pub ThinsTo : (map scen : List ℕ) → ℕ → List ℕ → (written : List ℕ) → ℕ → Type 0
ThinsTo map scen agents bytes written done = ThinsTexts map scen agents bytes written × (done ≡ DONE)
