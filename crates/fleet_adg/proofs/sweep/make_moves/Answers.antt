use Rattle.fleet_adg.proofs.Words.{◌∙◌, ◌+◌, ap, all_bytes_by}
use Rattle.std.proofs.lemmas.Result.{on_ok_weaker}
use Rattle.fleet_adg.proofs.sweep.make_moves.Goals as goal

pub returns : goal.returns
returns c =
    let noted = c.in_ok-note_leavings.ensures in
    let same = ap (λ d. all_bytes_by c.args.at.now.plan.now d c.args.at.now.version (c.args.at.now.time + 1)) noted.kind in
    on_ok_weaker c.add_actions.result (λ added. record { leavings = noted; actions = added ∙ same }) c.add_actions.ensures
