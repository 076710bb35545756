use Rattle.fleet_needs.proofs.Words.{◌≡◌, ◌+◌, ap, arith, ◌∙◌, end_of, need_at}
use Rattle.fleet_needs.proofs.RowsMade.{next_need}
use Rattle.fleet_needs.proofs.schedule.Schedule.need.Goals as goal

pub returns : goal.returns
returns g c =
    let s = c.args.self.now in
    let join = c.requires.join in
    let same : c.args.join.now.first + c.args.k ≡ end_of s.joins c.args.n + c.args.k = omega (arith, join.first) in
    next_need (g.P.ProgramView.program c.args.program.now) s join.schedule c.args.n join.next join.schedule.made.range c.args.k (omega (arith, join.count, c.requires.place)) c.need.result (c.need.ensures ∙ ap (need_at s.joins) same)
