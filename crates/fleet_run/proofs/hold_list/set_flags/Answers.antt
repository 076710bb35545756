use Rattle.std.proofs.Common.{inl, inr, rules}
use Rattle.fleet_run.proofs.SourceLemmas.{flags_step}
use Rattle.fleet_run.proofs.hold_list.set_flags.Goals as goal
use Rattle.fleet_run.proofs.hold_list.set_flags.Goals.{then-has_flag, else-has_flag}

pub loop-number-preserved : goal.loop-number-preserved
loop-number-preserved c =
    flags_step c.args.numbers.now c.loop-number.number-index c.from-agent.result _ _ c.loop-number-test.true (search rules) c.loop-number.invariant
    (elim c.if-has_flag.branch [
      | then-has_flag w ↦ inl (w.if-has_flag.true, w.flags-is)
      | else-has_flag w ↦ inr (w.if-has_flag.false, w.flags-is)
    ])
