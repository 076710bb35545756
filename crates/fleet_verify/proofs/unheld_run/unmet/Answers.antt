use Rattle.fleet_verify.proofs.Words.{arith, slice_index, ◌+◌, slice_get_within, get_or_from_slice_get, awaits_of, awaited_agent}
use Rattle.fleet_verify.proofs.Waiting.{met_more, ready_yes}
use Rattle.fleet_verify.proofs.unheld_run.unmet.Goals as goal

pub prove-unreachable-requires : goal.prove-unreachable-requires
prove-unreachable-requires g c =
    omega (arith, awaited_agent (g.P.ProgramView.program c.args.program.now) c.args.i (slice_index c.args.counts.now c.args.i + 1) c.loop-k.k c.await_at-awaited.result c.agents-agents.ensures.well_formed c.await_at-awaited.ensures)

pub returns-then-is_short-clause-some : goal.returns-then-is_short-clause-some
returns-then-is_short-clause-some g c =
    let awaits = awaits_of (g.P.ProgramView.program c.args.program.now) c.args.i (slice_index c.args.counts.now c.args.i + 1) in
    record {
      awaited = (c.loop-k.k, slice_get_within awaits c.loop-k.k c.await_at-awaited.result c.await_at-awaited.ensures, get_or_from_slice_get awaits c.loop-k.k c.await_at-awaited.result c.await_at-awaited.result c.await_at-awaited.ensures);
      unmet = c.if-is_short.true;
    }

pub returns-clause-none : goal.returns-clause-none
returns-clause-none g c = λ left. ready_yes (g.P.ProgramView.program c.args.program.now) c.args.counts.now c.args.i left c.loop-k.k (omega arith) c.loop-k.invariant

pub loop-k-preserved : goal.loop-k-preserved
loop-k-preserved g c =
    met_more (awaits_of (g.P.ProgramView.program c.args.program.now) c.args.i (slice_index c.args.counts.now c.args.i + 1)) c.args.counts.now c.loop-k.k c.await_at-awaited.result c.await_at-awaited.ensures
    c.if-is_short.false c.loop-k.invariant
