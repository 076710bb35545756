use Rattle.std.proofs.Common.{◌+◌, ◌-◌, length}
use Rattle.fleet_machine.specs.Machine.{flag_of}
use Rattle.fleet_machine.specs.Waking.{IsWoken}
use Rattle.fleet_machine.proofs.Waking.{reached_below}
use Rattle.fleet_machine.proofs.Ticking.{IsAdvancedTo, unwoken}
use Rattle.fleet_machine.specs.AgentSet.{IsCursorOf}
use Rattle.fleet_machine.proofs.machine.Machine.advance.Given as goal

abbrev pub invariant-loop-i : goal.invariant-loop-i
invariant-loop-i g l =
    let p = g.P.ProgramView.program l.program in
    record {
      cursor : IsCursorOf l.self.ready l.cursor;
      advanced : IsAdvancedTo p (flag_of l.held) l.fn.self (unwoken l.fn.self l.self) l.cursor.from l.moved l.ready_held (l.moved + l.kept);
      woken : IsWoken (reached_below (unwoken l.fn.self l.self) l.cursor.from) (unwoken l.fn.self l.self) l.self;
    }

abbrev pub decreases-loop-i : goal.decreases-loop-i
decreases-loop-i g l = length l.self.ready - l.cursor.from
