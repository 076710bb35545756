use Rattle.std.proofs.lemmas.Result.{err_from_is_err_and}
use Rattle.fleet_needs.proofs.Words.{◌∙◌, sym, subst, AreSure}
use Rattle.fleet_needs.proofs.{Flagged.flagged_if_none, Flagged.flags_end, Flagged.flags_first, Flagged.sure_of, RowsMade.block_gone}
use Rattle.fleet_needs.proofs.implied.flag_left.Goals as goal

pub returns-then-count_asked-eq0 : goal.returns-then-count_asked-eq0
returns-then-count_asked-eq0 g c = flagged_if_none _ c.args.asked.items c.args.implied.now (rw (sym c.deref.ensures.value) (sym c.count_asked.ensures ∙ c.if-count_asked-eq0.true)) c.requires.settled.settled

pub by_levels-requires-clause-sure : goal.by_levels-requires-clause-sure
by_levels-requires-clause-sure g c = subst (AreSure (g.P.ProgramView.program c.args.program.now)) (sym c.deref-2.ensures.value) (sure_of _ c.args.asked.items c.args.implied.now c.requires.settled.settled)

pub loop-rows-init : goal.loop-rows-init
loop-rows-init g c =
    let made = c.in_ok-rows.ensures.rows in
    (made.of, flags_first _ c.in_ok-rows.rows c.args.implied.now (rw made.asked c.requires.settled.settled) (rw (sym c.deref-3.ensures.value) c.in_ok-rows.ensures.passed) _ made.first)

pub flag_block-requires-clause-flags : goal.flag_block-requires-clause-flags
flag_block-requires-clause-flags g c = (let next = c.in_ok-next_block.ensures in rw (next.schedule, next.asked, (next.some c.if-branch.true).0) c.loop-rows.invariant.1)

pub returns : goal.returns
returns g c = flags_end _ c.requires.levels.range c.loop-rows.rows _ _ (c.in_ok-next_block.ensures.none c.if-branch.false) c.loop-rows.invariant.1

pub loop-rows-preserved : goal.loop-rows-preserved
loop-rows-preserved g c = (block_gone _ _ _ _ _ c.in_ok-next_block.ensures c.flag_block.ensures.same c.loop-rows.invariant.0, c.flag_block.ensures.flags)

pub flag_block-requires-clause-begun : goal.flag_block-requires-clause-begun
flag_block-requires-clause-begun g c = (c.in_ok-next_block.ensures.some c.if-branch.true).1.rows

pub returns-in_err-next_block : goal.returns-in_err-next_block
returns-in_err-next_block g c = rw (err_from_is_err_and c.from_residual-in_err-next_block.result c.from_residual-in_err-next_block.ensures.1).1 tt
