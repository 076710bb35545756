-- What a fleet shows, and what is true of it.
use Rattle.std.specs.Prelude.{◌≡◌, ℕ, ◌<◌, Bool, false, length, IsFalse}
use Rattle.fleet_model.specs.Program.{Program}
use Rattle.fleet_model.specs.Machine.{Configuration, Holds, IsReached, is_ready_held, is_stuck, moved_in, run, tick}
use Rattle.fleet_model.specs.Chain.{IsLongestChain}
use Rattle.fleet_model.specs.Claims.{KeepsOrder}
use Rattle.fleet_verify.specs.Parts.{AcceptedParts, IsAcceptedFor}
use Rattle.fleet_machine.specs.Confirmed.{all_but, AreAllReady}
use Rattle.fleet_machine.specs.Looked.{awaiting_in, ready_in, LooksAt}
use Rattle.fleet_machine.specs.Machine.{MachineState, Runs}
use Rattle.fleet_machine.specs.declared.machine.Tick.{Tick}

-- an accepted program, the configuration in which its agents are, and how many of them have been looked at
pub record FleetState (P : Type 0) : Type 0 where
  pub accepted : AcceptedParts P
  pub configuration : Configuration
  pub looked : ℕ

-- what acceptance gives a run that writes its trace
pub record IsShown (p : Program) (chain : ℕ) : Type 0 where
  pub longest : IsLongestChain p chain
  pub never_stuck : (holds : Holds) (t : ℕ) → is_stuck p (run p holds t) ≡ false

-- what is true of a fleet that runs the program p
pub record IsRunning {P : Type 0} (p : Program) (accepted : AcceptedParts P) (m : MachineState) : Type 0 where
  pub runs : Runs p m
  pub accepted_for : IsAcceptedFor accepted.grid accepted.instance p accepted.chain
  pub reached : IsReached p m.configuration

-- the outcome of one tick of a fleet that runs the program p, in which these are held: how many agents it moves, and
-- whether it holds a ready one; and how many it looks at
pub record IsOutcomeOf {P : Type 0} (p : Program) (holds : ℕ → Bool) (old new : FleetState P) (outcome : Tick) : Type 0 where
  pub looked : LooksAt (ready_in p old.configuration) (awaiting_in p holds old.configuration) old.looked new.looked
  pub moved : outcome.moved ≡ moved_in p holds old.configuration
  pub held : outcome.ready_held ≡ is_ready_held p holds old.configuration

-- in a fleet that runs the program p the flagged agents have carried out their orders: a tick in which all others are
-- held. Each had one, and who is not flagged stays, and keeps its order
pub record HaveCarriedOut {P : Type 0} (p : Program) (done : ℕ → Bool) (old new : FleetState P) : Type 0 where
  pub after : new ≡ record old { configuration = tick p (all_but done) old.configuration; looked = new.looked }
  pub looks : LooksAt (moved_in p (all_but done) old.configuration) (awaiting_in p (all_but done) old.configuration) old.looked new.looked
  pub sent : AreAllReady p old.configuration done
  pub kept : (i : ℕ) → i < length p → IsFalse (done i) → KeepsOrder p old.configuration new.configuration i
