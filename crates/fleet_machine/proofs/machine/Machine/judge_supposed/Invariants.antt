use Rattle.std.proofs.Common.{◌≡◌, ◌-◌, ◌≤◌, length, filter}
use Rattle.fleet_model.specs.Machine.{indices}
use Rattle.fleet_machine.specs.Machine.{flag_of}
use Rattle.fleet_machine.proofs.Judging.{AreJudgedTo}
use Rattle.fleet_machine.specs.AgentSet.{IsCursorOf}
use Rattle.fleet_machine.proofs.machine.Machine.judge_supposed.Given as goal

abbrev pub invariant-loop-i : goal.invariant-loop-i
invariant-loop-i g l =
    let p = g.P.ProgramView.program l.program in
    let due = flag_of l.fn.self.due in
    record {
      cursor : IsCursorOf l.self.due l.cursor;
      judged : AreJudgedTo p due l.fn.self l.self l.cursor.from;
      counted : l.count ≡ length (filter due (indices l.cursor.from));
      within : l.cursor.from ≤ length p;
    }

abbrev pub decreases-loop-i : goal.decreases-loop-i
decreases-loop-i g l = length l.self.due - l.cursor.from
