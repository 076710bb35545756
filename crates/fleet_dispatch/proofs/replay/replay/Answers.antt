use Rattle.fleet_dispatch.proofs.Cited.{course_in, left_in, IsReplay}
use Rattle.fleet_dispatch.proofs.Replaying.{replays}
use Rattle.fleet_dispatch.proofs.Said.{dispatches_more}
use Rattle.fleet_dispatch.proofs.replay.replay.Goals as goal

pub returns : goal.returns
returns g c =
    let d = course_in (g.P.ProgramView.program c.args.program.now) c.args.pace c.args.session.now in
    let left = left_in c.run_session.new.session in
    rw c.replay_end.ensures (replays d c.args.log.now left c.run_session.result
    (dispatches_more _ (IsReplay c.args.pace.form c.args.log.now) (λ talk said. (c.run_session.new.floor.rest.now, said.0)) d left c.run_session.result c.run_session.ensures))
