use Rattle.std.proofs.Common.{◌<◌, ◌≡◌, length, ap, sym, subst, arith}
use Rattle.fleet_machine.specs.AgentSet.{IsNextFrom, AreNoneFrom}
use Rattle.fleet_machine.specs.Machine.{MachineState}
use Rattle.fleet_machine.specs.Waking.{IsWoken, is_woken_by}
use Rattle.fleet_machine.proofs.Ticking.{unwoken}
use Rattle.fleet_machine.proofs.Woken.{none_woken_at_first, all_woken_below, one_wakes}
use Rattle.fleet_machine.proofs.Carried.{IsCarriedTo, none_carried_yet, left_if_next, one_on, all_on}
use Rattle.fleet_machine.proofs.machine.Machine.move_all.Goals as goal

pub loop-i-init : goal.loop-i-init
loop-i-init g c =
    let p = g.P.ProgramView.program c.args.program.now in
    let old = c.args.self.now in
    let same : unwoken old old ≡ old = ap (λ flags. record old { due = flags }) (sym c.requires.due) in
    let from = c.moved_cursor-cursor.ensures.from in
    record {
      cursor = c.moved_cursor-cursor.ensures.cursor;
      carried = rw from (subst (λ (m : MachineState). IsCarriedTo p old m 0) (sym same) (none_carried_yet p old c.requires.fits.agents c.requires.fits.rows.marks));
      woken = rw from (none_woken_at_first old (unwoken old old) same);
    }

pub advance_one-requires-clause-next : goal.advance_one-requires-clause-next
advance_one-requires-clause-next g c =
    let p = g.P.ProgramView.program c.args.program.now in
    let old = c.args.self.now in
    let before = c.loop-i.invariant.carried in
    let i = c.in-Some.i in
    let next : IsNextFrom old.moving c.loop-i.cursor.from i = rw (ap (λ (m : MachineState). m.moving) before.same) at c.in-Some.ensures.next in
    let agent : i < length p = omega (arith, next.agent, c.requires.moving) in
    record {
      well_formed = c.requires.fits.well_formed;
      agent = agent;
      standing = omega (arith, agent, before.carried.long);
      marks = omega (arith, agent, before.passes.long);
      left = left_if_next p old.moving old.configuration c.requires.sent c.loop-i.self.configuration c.loop-i.cursor.from before.carried i agent next;
    }

pub loop-i-preserved : goal.loop-i-preserved
loop-i-preserved g c =
    let p = g.P.ProgramView.program c.args.program.now in
    let old = c.args.self.now in
    let now = c.loop-i.self in
    let before = c.loop-i.invariant in
    let i = c.in-Some.i in
    let next : IsNextFrom old.moving c.loop-i.cursor.from i = rw (ap (λ (m : MachineState). m.moving) before.carried.same) at c.in-Some.ensures.next in
    let agent : i < length p = omega (arith, next.agent, c.requires.moving) in
    let behind = c.in-Some.ensures.behind in
    record {
      cursor = rw (ap (λ (m : MachineState). m.moving) c.advance_one.ensures.same) c.in-Some.ensures.cursor;
      carried = rw (behind, ap (unwoken old) c.advance_one.ensures.same) (one_on p old c.requires.sent (unwoken old now) c.loop-i.cursor.from before.carried i agent next);
      woken = rw behind (one_wakes p old now c.loop-i.cursor.from before.woken i c.in-Some.ensures.next c.advance_one.new.self c.advance_one.ensures);
    }

pub returns : goal.returns
returns g c =
    let p = g.P.ProgramView.program c.args.program.now in
    let old = c.args.self.now in
    let now = c.loop-i.self in
    let before = c.loop-i.invariant in
    let none : AreNoneFrom old.moving c.loop-i.cursor.from = rw (ap (λ (m : MachineState). m.moving) before.carried.same) at c.in_default.ensures.next in
    subst (λ (m : MachineState). IsWoken (is_woken_by m) m now) (all_on p old c.requires.sent (unwoken old now) c.loop-i.cursor.from before.carried none)
    (all_woken_below p old now c.loop-i.cursor.from before.woken c.in_default.ensures.next)
