use Rattle.std.proofs.Common.{slice_index_or, false, arith}
use Rattle.std.proofs.lemmas.Bool.{or_parts}
use Rattle.fleet_machine.proofs.Flags.{none_in, none_more}
use Rattle.fleet_machine.proofs.agent_set.is_any_set.Goals as goal

pub loop-i-init : goal.loop-i-init
loop-i-init c = λ none. none_in c.args.flags.now c.args.from

pub loop-i-preserved : goal.loop-i-preserved
loop-i-preserved c =
    λ none.
    let parts = or_parts c.loop-i.is_any (slice_index_or c.args.flags.now c.loop-i.i false) none in
    none_more c.args.flags.now c.args.from c.loop-i.i (c.loop-i.invariant parts.0) parts.1

pub returns : goal.returns
returns c = λ none k ge lt. c.loop-i.invariant none k ge (omega arith)
