use Rattle.std.proofs.Common.{ap, arith}
use Rattle.fleet_model.specs.declared.standing.Standing.{Standing}
use Rattle.fleet_machine.proofs.Placed.{placed_at_end, placed_ready, placed_in_list}
use Rattle.fleet_machine.proofs.machine.Machine.judge.Goals as goal

pub returns-then-has_finished : goal.returns-then-has_finished
returns-then-has_finished g c =
    let p = g.P.ProgramView.program c.args.program.now in
    let count = ap (λ (s : Standing). s.count) c.agent.ensures.standing in
    placed_at_end p c.args.self.now c.rest.new.self c.args.i c.requires.supposed.nowhere (omega (arith, count, c.if-has_finished.true)) c.requires.supposed.read c.rest.ensures

pub returns-in-None : goal.returns-in-None
returns-in-None g c =
    let p = g.P.ProgramView.program c.args.program.now in
    let count = ap (λ (s : Standing). s.count) c.agent.ensures.standing in
    let on = c.read_on-lacked in
    placed_ready p c.args.self.now c.set_mark.new.self c.args.i c.requires.supposed.nowhere (omega (arith, count, c.if-has_finished.false)) c.requires.supposed.flagged
    on.result.0 on.ensures.read on.ensures.all on.result.1 c.in-None.is on.ensures.lacked on.ensures.ready c.requires.supposed.ready c.set_mark.ensures

pub returns-in-Some : goal.returns-in-Some
returns-in-Some g c =
    let p = g.P.ProgramView.program c.args.program.now in
    let count = ap (λ (s : Standing). s.count) c.agent.ensures.standing in
    let on = c.read_on-lacked in
    placed_in_list p c.args.self.now c.wait.new.self c.args.i c.requires.supposed.nowhere (omega (arith, count, c.if-has_finished.false)) c.requires.supposed.flagged
    on.result.0 on.ensures.read on.ensures.all on.result.1 c.in-Some.awaited c.in-Some.is on.ensures.kept on.ensures.lacked on.ensures.ready c.wait.ensures

pub read_on-lacked-requires-clause-next : goal.read_on-lacked-requires-clause-next
read_on-lacked-requires-clause-next g c =
    let fits = c.requires.fits in
    record {
      well_formed = fits.well_formed;
      agent = c.requires.agent;
      standing = omega (arith, c.requires.agent, fits.agents);
      marks = omega (arith, c.requires.agent, fits.rows.marks);
      left = omega (arith, ap (λ (s : Standing). s.count) c.agent.ensures.standing, c.if-has_finished.false);
    }
