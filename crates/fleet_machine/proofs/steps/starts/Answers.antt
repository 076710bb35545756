use Rattle.std.proofs.Common.{◌≤◌, length, ◌∙◌, subst, sym, arith}
use Rattle.std.proofs.lemmas.List.{take_all}
use Rattle.fleet_model.specs.Machine.{opening}
use Rattle.fleet_model.proofs.Tick.{length_opening}
use Rattle.fleet_machine.specs.Near.{AreNear}
use Rattle.fleet_machine.proofs.Opened.{opening_more, near_none, near_more}
use Rattle.fleet_machine.proofs.steps.starts.Goals as goal

pub loop-i-preserved : goal.loop-i-preserved
loop-i-preserved g c =
    let p = g.P.ProgramView.program c.args.program.now in
    let agents = c.loop-i.agents.items in
    let new = c.at_start in
    rw c.in_ok-push.ensures.items record {
      opening = opening_more p agents c.loop-i.i c.start.result new.result (omega (arith, c.agents-count.ensures.count)) c.loop-i.invariant.opening c.start.ensures new.ensures.place;
      near = near_more agents new.result c.loop-i.invariant.near new.ensures.near;
    }

pub loop-i-init : goal.loop-i-init
loop-i-init g c = record {
  opening = c.in_ok-agents.ensures.items;
  near = subst AreNear (sym c.in_ok-agents.ensures.items) near_none;
}

pub returns-clause-opening : goal.returns-clause-opening
returns-clause-opening g c =
    let p = g.P.ProgramView.program c.args.program.now in
    let all : length (opening p) ≤ c.loop-i.i = omega (arith, length_opening p, c.agents-count.ensures.count, c.loop-i-test.false) in
    c.loop-i.invariant.opening ∙ take_all c.loop-i.i (opening p) all

pub returns-clause-near : goal.returns-clause-near
returns-clause-near g c = c.loop-i.invariant.near
