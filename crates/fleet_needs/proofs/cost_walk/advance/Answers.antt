use Rattle.fleet_needs.proofs.Words.{◌+◌, List, length, sym, subst, ap, ◌∙◌, arith, length_push, mul-le, slice_get_within, get_or_from_slice_get, awaits_of, few_awaits_of, after, Finished, IsCostWalk, IsNotedCost, MAX_COST, MAX_LEVEL, awaited, noted_in, row_in}
use Rattle.fleet_needs.proofs.{Joining.awaited_action, Walking.noted_of, Walking.greatest_more, Walking.costs_here, Walking.run_more, Walking.gone_on}
use Rattle.fleet_needs.proofs.cost_walk.advance.Goals as goal

pub noted-requires : goal.noted-requires
noted-requires g c =
    let here = awaited_action (g.P.ProgramView.program c.args.program.now) c.requires.walk.numbered.range c.args.agent (c.finished-finished.result + 1) c.loop-met.met c.in-Await.awaited (rw c.in-Await.is at c.read-reading.ensures.instruction) in
    (omega (arith, here.agent, c.requires.walk.rows, ap (λ (rows : List Finished). length rows) c.loop-met.invariant.same), here.first)

pub returns-in_default-clause-walk : goal.returns-in_default-clause-walk
returns-in_default-clause-walk g c =
    let p = g.P.ProgramView.program c.args.program.now in
    let cost = g.C.ActionCosts.cost c.args.costs.now in
    let offset = g.P.ProgramView.offset c.args.program.now in
    let run = c.requires.walk.each c.args.agent c.requires.next.agent in
    subst (IsCostWalk p cost offset) (sym (rw c.loop-met.invariant.same at c.stop.ensures)) (gone_on p cost offset c.args.walk.now c.requires.walk c.args.agent c.requires.next.agent _ (record { few = run.few; noted = run.noted; next = c.loop-met.invariant.stage }))

pub returns-in_default-clause-same : goal.returns-in_default-clause-same
returns-in_default-clause-same g c = record { row = _; is = rw c.loop-met.invariant.same at c.stop.ensures; more = omega arith }

pub returns-in_default-clause-unmet : goal.returns-in_default-clause-unmet
returns-in_default-clause-unmet g c =
    let awaits = awaits_of (g.P.ProgramView.program c.args.program.now) c.args.agent (noted_in c.args.walk.now c.args.agent + 1) in
    let at = rw (c.in-Await.is, c.finished-finished.ensures) at c.read-reading.ensures.instruction in
    record { await = (c.loop-met.met, slice_get_within awaits c.loop-met.met c.in-Await.awaited at, get_or_from_slice_get awaits c.loop-met.met c.in-Await.awaited c.in-Await.awaited at); unfinished = rw c.loop-met.invariant.same at c.in_default.ensures.open }

pub loop-met-preserved : goal.loop-met-preserved
loop-met-preserved g c =
    let p = g.P.ProgramView.program c.args.program.now in
    let cost = g.C.ActionCosts.cost c.args.costs.now in
    let walk = c.requires.walk in
    let n = noted_in c.args.walk.now c.args.agent in
    let w = c.in-Await.awaited in
    let at = rw (c.in-Await.is, c.finished-finished.ensures) at c.read-reading.ensures.instruction in
    let noted = noted_of p cost (g.P.ProgramView.offset c.args.program.now) c.args.walk.now walk _ (awaited_action p walk.numbered.range c.args.agent (n + 1) c.loop-met.met w at) (rw c.loop-met.invariant.same at c.in-Some.ensures.last) in
    record {
      same = c.loop-met.invariant.same;
      stage = record {
        within = omega (arith, slice_get_within (awaits_of p c.args.agent (n + 1)) c.loop-met.met w at);
        at = rw (c.in-Await.is, c.finished-finished.ensures) at c.read-reading.ensures.after;
        greatest = greatest_more p cost (after c.args.agent n) c.loop-met.met c.loop-met.greatest w c.in-Some.cost _ c.loop-met.invariant.stage.greatest at (subst (IsNotedCost p cost (awaited w)) (sym (rw c.loop-met.invariant.same at c.in-Some.ensures.cost)) noted) (omega (arith, c.max-greatest.ensures));
      };
    }

pub overflow_add-greatest : goal.overflow_add-greatest
overflow_add-greatest g c =
    let p = g.P.ProgramView.program c.args.program.now in
    let cost = g.C.ActionCosts.cost c.args.costs.now in
    let said = rw (c.in-Step.is, c.finished-finished.ensures) at c.read-reading.ensures.instruction in
    let own = rw c.finished-finished.ensures at c.cost-own.ensures.cost in
    let here = costs_here p cost c.requires.walk.numbered.range _ c.requires.next c.loop-met.met c.loop-met.greatest said.0 c.loop-met.invariant.stage.greatest c.from.result (c.from.ensures ∙ own) (omega (arith, c.from.ensures, c.cost-own.ensures.most)) in
    let f = c.requires.walk.numbered in
    omega (arith, here.few f.number f.rising, mul-le (f.number _) MAX_COST MAX_LEVEL MAX_COST (f.upto _ c.requires.next) (omega arith))

pub returns-in-Step-clause-walk : goal.returns-in-Step-clause-walk
returns-in-Step-clause-walk g c =
    let p = g.P.ProgramView.program c.args.program.now in
    let cost = g.C.ActionCosts.cost c.args.costs.now in
    let offset = g.P.ProgramView.offset c.args.program.now in
    let w = c.args.walk.now in
    let i = c.args.agent in
    let agent = c.requires.next.agent in
    let said = rw (c.in-Step.is, c.finished-finished.ensures) at c.read-reading.ensures.instruction in
    let own = rw c.finished-finished.ensures at c.cost-own.ensures.cost in
    let here = costs_here p cost c.requires.walk.numbered.range _ c.requires.next c.loop-met.met c.loop-met.greatest said.0 c.loop-met.invariant.stage.greatest c.from.result (c.from.ensures ∙ own) (omega (arith, c.from.ensures, c.cost-own.ensures.most)) in
    let run = run_more p cost offset i (row_in w i) (c.requires.walk.each i agent) (omega (arith, c.requires.next.last)) _ c.read-reading.result.after here (rw (c.in-Step.is, c.finished-finished.ensures) at c.read-reading.ensures.after) in
    subst (IsCostWalk p cost offset) (sym (rw c.loop-met.invariant.same at c.in_ok-finish-in-Step.ensures)) (gone_on p cost offset w c.requires.walk i agent _ run)

pub returns-in-Step-clause-noted : goal.returns-in-Step-clause-noted
returns-in-Step-clause-noted g c = record { row = _; is = rw c.loop-met.invariant.same at c.in_ok-finish-in-Step.ensures; more = length_push (row_in c.args.walk.now c.args.agent).costs _ }

pub unreachable-requires : goal.unreachable-requires
unreachable-requires g c =
    let few = few_awaits_of (g.P.ProgramView.program c.args.program.now) c.args.agent (noted_in c.args.walk.now c.args.agent + 1) c.requires.next.agent c.agents.ensures.well_formed in
    omega (arith, few, c.loop-met.invariant.stage.within, c.loop-met-test.false)
