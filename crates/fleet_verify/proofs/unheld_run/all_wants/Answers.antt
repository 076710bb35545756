use Rattle.std.proofs.Common.{arith}
use Rattle.fleet_verify.proofs.Looking.{wants_none, wants_more, wants_all}
use Rattle.fleet_verify.proofs.Waiting.{unmet_found}
use Rattle.fleet_verify.proofs.unheld_run.all_wants.Goals as goal

pub loop-i-preserved : goal.loop-i-preserved
loop-i-preserved g c =
    let p = g.P.ProgramView.program c.args.program.now in
    rw c.in_ok-push.ensures.items
    (wants_more p c.args.counts.now c.loop-i.wants.items c.loop-i.i c.unwrap_or-want.result c.loop-i.invariant (λ b. rw c.unwrap_or-want.ensures
    (unmet_found p c.args.counts.now c.loop-i.i c.unmet.result (record { agent = 0; count = 0 }) c.unmet.ensures.some c.unmet.ensures.none (c.requires.stuck c.loop-i.i b.agent) b)))

pub returns : goal.returns
returns g c = wants_all (g.P.ProgramView.program c.args.program.now) c.args.counts.now c.loop-i.wants.items c.loop-i.i c.loop-i.invariant (omega (arith, c.agents-i-end.ensures.count))

pub loop-i-init : goal.loop-i-init
loop-i-init g c =
    rw c.new-wants.ensures.items (wants_none (g.P.ProgramView.program c.args.program.now) c.args.counts.now)
