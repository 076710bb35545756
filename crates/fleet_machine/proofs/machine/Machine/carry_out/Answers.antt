use Rattle.std.proofs.Common.{sym, ◌∙◌, ap, subst}
use Rattle.fleet_model.specs.Machine.{moved_in}
use Rattle.fleet_machine.specs.Confirmed.{all_but}
use Rattle.fleet_machine.specs.Looked.{awaiting_in, LooksAt}
use Rattle.fleet_machine.specs.Machine.{MachineState, Runs, flag_of}
use Rattle.fleet_machine.specs.Waking.{IsWoken, is_woken_by}
use Rattle.fleet_machine.proofs.Carried.{all_moving, chosen_moved}
use Rattle.fleet_machine.proofs.Ticking.{runs_looked, looked_at}
use Rattle.fleet_machine.proofs.machine.Machine.carry_out.Goals as goal

pub judge_woken-judged-requires : goal.judge_woken-judged-requires
judge_woken-judged-requires g c =
    let p = g.P.ProgramView.program c.args.program.now in
    let done = c.args.done.now in
    let moved = chosen_moved p done c.args.self.now c.choose.new.self c.requires.sent c.requires.done c.choose.ensures in
    let woken = subst (λ (m : MachineState). IsWoken (is_woken_by m) m c.move_all.new.self) moved c.move_all.ensures in
    record { woken = (c.args.self.now, all_but (flag_of done), record { runs = c.requires.runs; woken = woken }) }

pub returns : goal.returns
returns g c =
    let p = g.P.ProgramView.program c.args.program.now in
    let old = c.args.self.now in
    let done = c.args.done.now in
    let held = all_but (flag_of done) in
    let moved = chosen_moved p done old c.choose.new.self c.requires.sent c.requires.done c.choose.ensures in
    let woken = subst (λ (m : MachineState). IsWoken (is_woken_by m) m c.move_all.new.self) moved c.move_all.ensures in
    let settled = c.judge_woken-judged.ensures old held (record { runs = c.requires.runs; woken = woken }) in
    let counted = c.count_looked.ensures in
    record {
      runs = subst (Runs p) (sym counted.same) (runs_looked p c.judge_woken-judged.new.self c.count_looked.new.self.looked settled.runs);
      after = ap (λ (m : MachineState). m.configuration) counted.same ∙ settled.configuration;
      moving = ap (λ (m : MachineState). m.moving) counted.same ∙ (settled.moving ∙ sym (all_moving p done old.configuration c.requires.sent c.requires.done));
      looked = looked_at (moved_in p held old.configuration) (awaiting_in p held old.configuration) c.judge_woken-judged.result old.looked c.count_looked.new.self.looked settled.least settled.most
          (subst (λ n. LooksAt c.judge_woken-judged.result 0 n c.count_looked.new.self.looked) settled.looked counted.looked);
    }
