use Rattle.std.proofs.Common.{◌<◌, length, refl, arith, ap, sym, ◌∙◌}
use Rattle.fleet_machine.specs.Machine.{MachineState, flag_of, is_left}
use Rattle.fleet_machine.specs.AgentSet.{IsNextFrom, AreNoneFrom}
use Rattle.fleet_machine.proofs.Judging.{none_judged, read_so_far, left_so_far, ready_so_far, one_judged, some_passed, none_more_counted, one_more_counted, counted_le}
use Rattle.fleet_machine.proofs.machine.Machine.judge_supposed.Goals as goal

pub overflow_add-count : goal.overflow_add-count
overflow_add-count g c =
    let due = flag_of c.args.self.now.due in
    let before = c.loop-i.invariant in
    let few = counted_le due c.loop-i.cursor.from in
    omega (arith, before.counted, before.within, c.requires.can.well_formed.few_agents)

pub loop-i-preserved : goal.loop-i-preserved
loop-i-preserved g c =
    let p = g.P.ProgramView.program c.args.program.now in
    let old = c.args.self.now in
    let due = flag_of old.due in
    let before = c.loop-i.invariant in
    let i = c.in-Some.i in
    let next : IsNextFrom old.due c.loop-i.cursor.from i = rw (ap (λ (m : MachineState). m.due) before.judged.same) at c.in-Some.ensures.next in
    let agent : i < length p = omega (arith, next.agent, c.requires.can.rows.due) in
    let here = some_passed p due old c.loop-i.self c.loop-i.cursor.from i next.later next.between before.judged in
    let behind = c.in-Some.ensures.behind in
    record {
      cursor = rw (ap (λ (m : MachineState). m.due) c.judge.ensures.same) c.in-Some.ensures.cursor;
      judged = rw behind (one_judged p due old c.loop-i.self i here c.judge.new.self next.member agent c.judge.ensures);
      counted = rw behind (one_more_counted due i c.loop-i.count next.member (none_more_counted due c.loop-i.cursor.from i c.loop-i.count next.later next.between before.counted));
      within = omega (arith, agent, behind);
    }

pub loop-i-init : goal.loop-i-init
loop-i-init g c =
    let from = c.due_cursor-cursor.ensures.from in
    record {
      cursor = c.due_cursor-cursor.ensures.cursor;
      judged = rw from (none_judged (g.P.ProgramView.program c.args.program.now) (flag_of c.args.self.now.due) c.args.self.now c.requires.can.rows);
      counted = rw from refl;
      within = omega (arith, from);
    }

pub judge-requires-clause-fits : goal.judge-requires-clause-fits
judge-requires-clause-fits g c =
    let before = c.loop-i.invariant in
    record {
      well_formed = c.requires.can.well_formed;
      agents = ap (λ (m : MachineState). length m.configuration) before.judged.same ∙ c.requires.can.agents;
      rows = before.judged.rows;
    }

pub judge-requires-clause-supposed : goal.judge-requires-clause-supposed
judge-requires-clause-supposed g c =
    let p = g.P.ProgramView.program c.args.program.now in
    let old = c.args.self.now in
    let due = flag_of old.due in
    let before = c.loop-i.invariant in
    let i = c.in-Some.i in
    let next : IsNextFrom old.due c.loop-i.cursor.from i = rw (ap (λ (m : MachineState). m.due) before.judged.same) at c.in-Some.ensures.next in
    let agent : i < length p = omega (arith, next.agent, c.requires.can.rows.due) in
    let here = some_passed p due old c.loop-i.self c.loop-i.cursor.from i next.later next.between before.judged in
    let config = ap (λ (m : MachineState). m.configuration) before.judged.same in
    record {
      read = read_so_far p due old c.loop-i.self i here (c.requires.can.read i agent);
      flagged = left_so_far p due old c.loop-i.self i here _ (λ is. c.requires.can.flagged i agent (sym (ap (λ rows. is_left p rows i) config) ∙ is));
      ready = ready_so_far p due old c.loop-i.self i here ∙ c.requires.ready i next.member;
      nowhere = (before.judged.later i next.later).home ∙ c.requires.can.nowhere i next.member;
    }

pub returns : goal.returns
returns g c =
    let p = g.P.ProgramView.program c.args.program.now in
    let old = c.args.self.now in
    let due = flag_of old.due in
    let before = c.loop-i.invariant in
    let none : AreNoneFrom old.due c.loop-i.cursor.from = rw (ap (λ (m : MachineState). m.due) before.judged.same) at c.in_default.ensures.next in
    record {
      same = before.judged.same;
      rows = before.judged.rows;
      judged = (some_passed p due old c.loop-i.self c.loop-i.cursor.from (length p) before.within (λ k later below. none k later) before.judged).judged;
      others = before.judged.others;
      count = none_more_counted due c.loop-i.cursor.from (length p) c.loop-i.count before.within (λ k later below. none k later) before.counted;
    }
