-- A program of bytes that is accepted for a map and tasks of texts.
use Rattle.std.specs.Prelude.{◌≡◌, ◌≢◌, ℕ, List, length}
use Rattle.fleet_model.specs.declared.task.Task.{Task}
use Rattle.fleet_model.specs.Program.{Program, total_moves, total_awaits}
use Rattle.fleet_grid.specs.Ground.{Ground, is_passable}
use Rattle.fleet_code.specs.Spelling.{Spells}
use Rattle.fleet_code.specs.LoadFaults.{IsFirstLoadFault}
use Rattle.fleet_code.specs.declared.fault.LoadFault.TheVariants as l
use Rattle.fleet_verify.specs.Parts.{IsAcceptedFor}
use Rattle.fleet_verify.specs.Promises.{Promises, IsRefusedRightly}
use Rattle.fleet_c.specs.Texts.{AreTextsOf, IsTextsStop}
use Rattle.fleet_c.specs.declared.verify.FleetAccepted.{FleetAccepted}
use Rattle.fleet_c.specs.declared.fault.CallFault.{CallFault}
use Rattle.fleet_c.specs.declared.fault.CallFault.TheVariants as f

-- the bytes spell this program, which is accepted for the ground and the tasks, with a longest chain of so many
-- actions, and runs as promised
pub record Accepts (g : Ground) (tasks : List Task) (bytes : List ℕ) (p : Program) (chain : ℕ) : Type 0 where
  pub spelled : Spells bytes p
  pub accepted_for : IsAcceptedFor g tasks p chain
  pub promised : Promises (is_passable g) p chain

-- the first fault of the bytes, or of the program that they spell; or memory ran out
abbrev pub IsAcceptStop : Ground → List Task → List ℕ → CallFault → Type 0
IsAcceptStop g tasks bytes f.OutOfMemory = Unit {0}
IsAcceptStop g tasks bytes (f.Load fault) = fault ≢ l.OutOfMemory → IsFirstLoadFault bytes fault
IsAcceptStop g tasks bytes (f.Verify fault) = (p : Program) × Spells bytes p × IsRefusedRightly (is_passable g) tasks p fault
IsAcceptStop g tasks bytes _ = ⊥

-- the texts stand for a map and for tasks, and the bytes spell a program that is accepted for them, with these numbers
pub record VerifiesTexts (map scen : List ℕ) (agents : ℕ) (bytes : List ℕ) (accepted : FleetAccepted) : Type 0 where
  pub ground : Ground
  pub tasks : List Task
  pub texts : AreTextsOf map scen agents ground tasks
  pub program : Program
  pub accepts : Accepts ground tasks bytes program accepted.chain
  pub agents_of : accepted.agents ≡ length program
  pub moves_of : accepted.moves ≡ total_moves program
  pub awaits_of : accepted.awaits ≡ total_awaits program

-- the first fault of the texts and the bytes, judged in this order: map, scenario, program; or memory ran out
abbrev pub IsVerifyStop : (map scen : List ℕ) → ℕ → List ℕ → CallFault → Type 0
IsVerifyStop map scen agents bytes (f.Load fault) = (g : Ground) × (tasks : List Task) × AreTextsOf map scen agents g tasks × IsAcceptStop g tasks bytes (f.Load fault)
IsVerifyStop map scen agents bytes (f.Verify fault) = (g : Ground) × (tasks : List Task) × AreTextsOf map scen agents g tasks × IsAcceptStop g tasks bytes (f.Verify fault)
IsVerifyStop map scen agents bytes fault = IsTextsStop map scen agents fault
