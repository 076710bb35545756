use Rattle.std.proofs.Common.{arith}
use Rattle.fleet_verify.proofs.Looking.{looking_start, looking_moves, looking_end, looked_few}
use Rattle.fleet_verify.proofs.needed.close.Goals as goal

pub loop-round-init : goal.loop-round-init
loop-round-init g c = record {
  looking = looking_start (g.P.ProgramView.program c.args.program.now) c.args.first c.args.second c.args.needed.now c.args.looked.now c.requires.visits c.requires.apart c.requires.needed c.requires.looked;
  rounds = omega arith;
}

pub look_at_next-requires-clause-actions : goal.look_at_next-requires-clause-actions
look_at_next-requires-clause-actions g c =
    looking_moves (g.P.ProgramView.program c.args.program.now) c.args.first c.args.second c.loop-round.needed c.loop-round.looked c.loop-round.invariant.looking

pub loop-round-preserved : goal.loop-round-preserved
loop-round-preserved g c = record {
  looking = c.look_at_next.ensures.looking c.args.first c.args.second c.loop-round.invariant.looking;
  rounds = omega (arith, c.loop-round.invariant.rounds, c.look_at_next.ensures.some c.if-not-look_at_next.false);
}

pub unreachable-requires : goal.unreachable-requires
unreachable-requires g c =
    omega (arith, looked_few (g.P.ProgramView.program c.args.program.now) c.args.first c.args.second c.loop-round.needed c.loop-round.looked c.loop-round.invariant.looking, c.loop-round.invariant.rounds, c.total_moves-most.ensures, c.loop-round-test.false)

pub returns-then-not-look_at_next : goal.returns-then-not-look_at_next
returns-then-not-look_at_next g c =
    looking_end (g.P.ProgramView.program c.args.program.now) c.args.first c.args.second c.look_at_next.new.needed c.look_at_next.new.looked
    (c.look_at_next.ensures.looking c.args.first c.args.second c.loop-round.invariant.looking)
    (c.look_at_next.ensures.none c.if-not-look_at_next.true)
