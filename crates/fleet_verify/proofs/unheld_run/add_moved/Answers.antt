use Rattle.fleet_verify.proofs.Words.{◌<◌, ◌++◌, List, length, refl, sym, subst, arith, All-push, err_from_is_err_and, Visit, count_at, is_passable, flag_of, StandsRight, AreAdded, moved_to, position_in, AreOnGround}
use Rattle.fleet_machine.specs.AgentSet.{IsNextFrom, AreNoneFrom}
use Rattle.fleet_verify.proofs.UnderWay.{positions_passed, positions_yes, one_moved}
use Rattle.fleet_verify.proofs.unheld_run.add_moved.Goals as goal

pub loop-agent-preserved : goal.loop-agent-preserved
loop-agent-preserved g c =
    let p = g.P.ProgramView.program c.args.program.now in
    let m = c.args.machine.now in
    let i = c.in-Some.agent in
    let old = c.loop-agent.invariant in
    let next : IsNextFrom m.moving c.loop-agent.from i = c.in-Some.ensures in
    let passed = positions_passed (flag_of m.moving) (count_at m.configuration) c.loop-agent.from i next.later next.between in
    let made = c.in_ok-add_position.ensures in
    let Stands = λ (v : Visit). StandsRight (is_passable c.args.grid.now) p v.agent v.position in
    let agent : i < length p = omega (arith, next.agent, c.requires.runs.flags) in
    record {
      added = λ before was.
          subst (λ (vs : List Visit). AreAdded p vs c.add_position.new.visits) (one_moved before (flag_of m.moving) (count_at m.configuration) i (count_at m.configuration i) next.member refl)
          (made.added (before ++ moved_to m i) (subst (λ (vs : List Visit). AreAdded p (before ++ vs) c.loop-agent.visits) (sym passed) (old.added before was)));
      on_ground = subst (AreOnGround (is_passable c.args.grid.now) p) (sym (positions_yes (flag_of m.moving) (count_at m.configuration) i next.member))
          (All-push Stands (moved_to m i) (position_in m i) (subst (AreOnGround (is_passable c.args.grid.now) p) (sym passed) old.on_ground) made.on_ground);
      within = omega (arith, agent);
    }

pub returns-clause-added : goal.returns-clause-added
returns-clause-added g c =
    let p = g.P.ProgramView.program c.args.program.now in
    let m = c.args.machine.now in
    let none : AreNoneFrom m.moving c.loop-agent.from = c.in_default.ensures in
    let passed = positions_passed (flag_of m.moving) (count_at m.configuration) c.loop-agent.from (length p) c.loop-agent.invariant.within (λ k later below. none k later) in
    λ before was. subst (λ (vs : List Visit). AreAdded p (before ++ vs) c.loop-agent.visits) (sym passed) (c.loop-agent.invariant.added before was)

pub returns-clause-on_ground : goal.returns-clause-on_ground
returns-clause-on_ground g c =
    let p = g.P.ProgramView.program c.args.program.now in
    let m = c.args.machine.now in
    let none : AreNoneFrom m.moving c.loop-agent.from = c.in_default.ensures in
    let passed = positions_passed (flag_of m.moving) (count_at m.configuration) c.loop-agent.from (length p) c.loop-agent.invariant.within (λ k later below. none k later) in
    subst (AreOnGround (is_passable c.args.grid.now) p) (sym passed) c.loop-agent.invariant.on_ground

pub returns-in_err-add_position-clause-stop : goal.returns-in_err-add_position-clause-stop
returns-in_err-add_position-clause-stop g c =
    let e = err_from_is_err_and c.from_residual.result c.from_residual.ensures.1 in
    rw (e.1, e.2) c.in_err-add_position.ensures.stop
