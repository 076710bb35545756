use Rattle.fleet_needs.proofs.Words.{ap, arith, refl, joins_in}
use Rattle.fleet_needs.proofs.{Flagged.flags_after, Flagged.flags_begun, RowsMade.same_on}
use Rattle.fleet_needs.proofs.implied.flag_block.Goals as goal

pub loop-n-init : goal.loop-n-init
loop-n-init g c = record { same = record { schedule = refl; asked = refl; columns = refl }; rows = c.requires.begun; flags = flags_begun _ c.args.rows.now c.args.implied.now c.requires.flags }

pub flag_row-requires-clause-flags : goal.flag_row-requires-clause-flags
flag_row-requires-clause-flags g c = (let same = c.join_others.ensures.same in rw (same.schedule, same.asked, same.columns) c.loop-n.invariant.flags)

pub loop-n-preserved : goal.loop-n-preserved
loop-n-preserved g c =
    let same = c.finish_row.ensures.same in
    record { same = same_on _ _ _ (same_on _ _ _ c.loop-n.invariant.same c.join_others.ensures.same) same; rows = c.finish_row.ensures.made.rows; flags = rw (same.schedule, same.asked, same.columns) c.flag_row.ensures }

pub returns-clause-flags : goal.returns-clause-flags
returns-clause-flags g c = flags_after _ c.loop-n.rows c.loop-n.n c.loop-n.implied (omega (arith, c.loop-n-test.false, c.rows-n-end.ensures, ap joins_in c.loop-n.invariant.same.schedule)) c.loop-n.invariant.flags
