use Rattle.std.proofs.Common.{suc, leb-true, le-leb}
use Rattle.fleet_verify.proofs.Leaving.{left_at_once, not_sooner}
use Rattle.fleet_verify.proofs.order.is_left_by.Goals as goal

pub returns-then-never_stays : goal.returns-then-never_stays
returns-then-never_stays g c =
    let p = g.P.ProgramView.program c.args.program.now in
    let v = c.args.visit in
    let never = c.never_stays.ensures c.if-never_stays.true in (
      (λ t. left_at_once p v c.args.count never (leb-true (suc v.position) c.args.count t)),
      (λ l. le-leb (suc v.position) c.args.count (not_sooner p v c.args.count never l)),
    )
