use Rattle.std.proofs.Common.{◌-◌, length}
use Rattle.fleet_machine.specs.Waking.{IsWoken}
use Rattle.fleet_machine.proofs.Waking.{reached_below}
use Rattle.fleet_machine.proofs.Ticking.{unwoken}
use Rattle.fleet_machine.proofs.Carried.{IsCarriedTo}
use Rattle.fleet_machine.specs.AgentSet.{IsCursorOf}
use Rattle.fleet_machine.proofs.machine.Machine.move_all.Given as goal

abbrev pub invariant-loop-i : goal.invariant-loop-i
invariant-loop-i g l = record {
  cursor : IsCursorOf l.self.moving l.cursor;
  carried : IsCarriedTo (g.P.ProgramView.program l.program) l.fn.self (unwoken l.fn.self l.self) l.cursor.from;
  woken : IsWoken (reached_below (unwoken l.fn.self l.self) l.cursor.from) (unwoken l.fn.self l.self) l.self;
}

abbrev pub decreases-loop-i : goal.decreases-loop-i
decreases-loop-i g l = length l.self.moving - l.cursor.from
