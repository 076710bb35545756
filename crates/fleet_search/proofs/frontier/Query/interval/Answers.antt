use Rattle.fleet_search.proofs.Words.{subst, arith, AreBegun, IsEndAfter, occupancies_on}
use Rattle.fleet_search.proofs.IntervalLaws.{free-interval, free-until}
use Rattle.fleet_search.proofs.frontier.Query.interval.Goals as goal

pub returns-clause-inside : goal.returns-clause-inside
returns-clause-inside c =
    let q = c.args.self.now in
    let m = c.args.state in
    let begun = subst (λ t. AreBegun (occupancies_on q m.cell) t c.interval_after.result.number) c.from.ensures (subst (λ z. AreBegun z c.from.result c.interval_after.result.number) c.occupancies.ensures c.interval_after.ensures.begun) in
    free-interval q.reserved.now m.cell (occupancies_on q m.cell) (c.requires.measured.occupancies m.cell) m.time c.interval_after.result.number (omega arith) begun c.requires.free

pub returns-clause-until : goal.returns-clause-until
returns-clause-until c =
    let q = c.args.self.now in
    let m = c.args.state in
    let until = c.interval_after.result.until in
    free-until q.reserved.now m.cell (occupancies_on q m.cell) (c.requires.measured.occupancies m.cell) m.time until (omega arith) c.requires.free (subst (λ t. IsEndAfter (occupancies_on q m.cell) t until) c.from.ensures (subst (λ z. IsEndAfter z c.from.result until) c.occupancies.ensures c.interval_after.ensures.end))
