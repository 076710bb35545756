use Rattle.std.proofs.Common.{◌≡◌, ◌+◌, ap, subst, arith}
use Rattle.fleet_model.specs.declared.standing.Standing.{Standing}
use Rattle.fleet_model.specs.Machine.{count_at}
use Rattle.fleet_model.proofs.Tick.{ready_left}
use Rattle.fleet_machine.specs.AgentSet.{IsNextFrom, AreNoneFrom}
use Rattle.fleet_machine.specs.Machine.{MachineState, flag_of}
use Rattle.fleet_machine.specs.Waking.{IsWoken, is_woken_by}
use Rattle.fleet_machine.proofs.Ticking.{unwoken, few_ready, all_counted, any_held, all_ready, all_moved, none_to_move, ready_agent, next_is_ready, next_to_move, one_advanced, one_held_back, nowhere_if_ready}
use Rattle.fleet_machine.proofs.Woken.{all_woken_below, one_wakes, held_wakes_none}
use Rattle.fleet_machine.proofs.machine.Machine.advance.Goals as goal

pub overflow_add-kept : goal.overflow_add-kept
overflow_add-kept g c =
    let p = g.P.ProgramView.program c.args.program.now in
    let now = c.loop-i in
    let shadow = unwoken c.args.self.now now.self in
    let next : IsNextFrom shadow.ready now.cursor.from c.in-Some.i = c.in-Some.ensures.next in
    let few = few_ready p (flag_of c.args.held.now) c.args.self.now c.requires.runs shadow now.cursor.from now.moved now.ready_held (now.moved + now.kept) now.invariant.advanced in
    let agent = ready_agent p (flag_of c.args.held.now) c.args.self.now c.requires.runs shadow now.cursor.from now.moved now.ready_held (now.moved + now.kept) now.invariant.advanced c.in-Some.i next in
    omega (arith, few, agent, next.later, c.requires.runs.well_formed.few_agents)

pub overflow_add-result : goal.overflow_add-result
overflow_add-result g c =
    let p = g.P.ProgramView.program c.args.program.now in
    let now = c.loop-i in
    let shadow = unwoken c.args.self.now now.self in
    let few = few_ready p (flag_of c.args.held.now) c.args.self.now c.requires.runs shadow now.cursor.from now.moved now.ready_held (now.moved + now.kept) now.invariant.advanced in
    omega (arith, few, now.invariant.advanced.within, c.requires.runs.well_formed.few_agents)

pub advance_one-requires-clause-next : goal.advance_one-requires-clause-next
advance_one-requires-clause-next g c =
    let p = g.P.ProgramView.program c.args.program.now in
    let old = c.args.self.now in
    let now = c.loop-i in
    let i = c.in-Some.i in
    let shadow = unwoken old now.self in
    let before = now.invariant.advanced in
    let next : IsNextFrom shadow.ready now.cursor.from i = c.in-Some.ensures.next in
    let ready = next_is_ready p (flag_of c.args.held.now) old c.requires.runs shadow now.cursor.from now.moved now.ready_held (now.moved + now.kept) before i next in
    let same : count_at now.self.configuration i ≡ count_at old.configuration i = ap (λ (s : Standing). s.count) (before.done.rest i next.later) in
    let agent = ready_agent p (flag_of c.args.held.now) old c.requires.runs shadow now.cursor.from now.moved now.ready_held (now.moved + now.kept) before i next in
    record {
      well_formed = c.requires.runs.well_formed;
      agent = agent;
      standing = omega (arith, agent, before.done.long);
      marks = omega (arith, agent, before.passes.long);
      left = omega (arith, same, ready_left p old.configuration i ready);
    }

pub loop-i-preserved-then-held-i : goal.loop-i-preserved-then-held-i
loop-i-preserved-then-held-i g c =
    let p = g.P.ProgramView.program c.args.program.now in
    let held = flag_of c.args.held.now in
    let old = c.args.self.now in
    let runs = c.requires.runs in
    let now = c.loop-i in
    let i = c.in-Some.i in
    let shadow = unwoken old now.self in
    let before = now.invariant.advanced in
    let next : IsNextFrom shadow.ready now.cursor.from i = c.in-Some.ensures.next in
    let behind = c.in-Some.ensures.behind in
    let ready = now.moved + now.kept in
    let one_kept : now.moved + (now.kept + 1) ≡ now.moved + now.kept + 1 = omega arith in
    let to_move = next_to_move p held old runs shadow now.cursor.from now.moved now.ready_held ready before i next in
    let agent = ready_agent p held old runs shadow now.cursor.from now.moved now.ready_held ready before i next in
    let nowhere = nowhere_if_ready p old runs i agent (next_is_ready p held old runs shadow now.cursor.from now.moved now.ready_held ready before i next) in
    rw c.hold_back.ensures record {
      cursor = c.in-Some.ensures.cursor;
      advanced = rw (behind, one_kept) (one_held_back p held old runs shadow now.cursor.from now.moved now.ready_held ready before i next c.if-held-i.true);
      woken = rw behind (held_wakes_none p old now.self now.cursor.from now.invariant.woken i to_move nowhere);
    }

pub loop-i-preserved : goal.loop-i-preserved
loop-i-preserved g c =
    let p = g.P.ProgramView.program c.args.program.now in
    let held = flag_of c.args.held.now in
    let old = c.args.self.now in
    let runs = c.requires.runs in
    let now = c.loop-i in
    let i = c.in-Some.i in
    let shadow = unwoken old now.self in
    let before = now.invariant.advanced in
    let next : IsNextFrom shadow.ready now.cursor.from i = c.in-Some.ensures.next in
    let behind = c.in-Some.ensures.behind in
    let ready = now.moved + now.kept in
    let one_moved : now.moved + 1 + now.kept ≡ now.moved + now.kept + 1 = omega arith in
    let to_move = next_to_move p held old runs shadow now.cursor.from now.moved now.ready_held ready before i next in
    let moves = one_advanced p held old runs shadow now.cursor.from now.moved now.ready_held ready before i next c.if-held-i.false in
    record {
      cursor = rw (ap (λ (m : MachineState). m.ready) c.advance_one.ensures.same) c.in-Some.ensures.cursor;
      advanced = rw (behind, one_moved, ap (unwoken old) c.advance_one.ensures.same) moves;
      woken = rw behind (one_wakes p old now.self now.cursor.from now.invariant.woken i to_move c.advance_one.new.self c.advance_one.ensures);
    }

pub returns-clause-woken : goal.returns-clause-woken
returns-clause-woken g c =
    let p = g.P.ProgramView.program c.args.program.now in
    let held = flag_of c.args.held.now in
    let old = c.args.self.now in
    let now = c.loop-i in
    let shadow = unwoken old now.self in
    let before = now.invariant.advanced in
    let none : AreNoneFrom shadow.ready now.cursor.from = c.in_default.ensures.next in
    let all = all_moved p held old c.requires.runs shadow now.cursor.from now.moved now.ready_held (now.moved + now.kept) before none in
    let to_move = none_to_move p held old c.requires.runs shadow now.cursor.from now.moved now.ready_held (now.moved + now.kept) before none in
    record {
      runs = c.requires.runs;
      woken = subst (λ (m : MachineState). IsWoken (is_woken_by m) m now.self) all (all_woken_below p old now.self now.cursor.from now.invariant.woken to_move);
    }

pub returns-clause-moved : goal.returns-clause-moved
returns-clause-moved g c =
    let now = c.loop-i in
    all_counted (g.P.ProgramView.program c.args.program.now) (flag_of c.args.held.now) c.args.self.now c.requires.runs (unwoken c.args.self.now now.self) now.cursor.from now.moved now.ready_held (now.moved + now.kept)
    now.invariant.advanced c.in_default.ensures.next

pub returns-clause-held : goal.returns-clause-held
returns-clause-held g c =
    let now = c.loop-i in
    any_held (g.P.ProgramView.program c.args.program.now) (flag_of c.args.held.now) c.args.self.now c.requires.runs (unwoken c.args.self.now now.self) now.cursor.from now.moved now.ready_held (now.moved + now.kept)
    now.invariant.advanced c.in_default.ensures.next

pub returns-clause-ready : goal.returns-clause-ready
returns-clause-ready g c =
    let now = c.loop-i in
    all_ready (g.P.ProgramView.program c.args.program.now) (flag_of c.args.held.now) c.args.self.now c.requires.runs (unwoken c.args.self.now now.self) now.cursor.from now.moved now.ready_held (now.moved + now.kept)
    now.invariant.advanced c.in_default.ensures.next
