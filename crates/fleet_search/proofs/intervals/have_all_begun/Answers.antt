use Rattle.fleet_search.proofs.Words.{◌-◌, length, ap, arith, leb-true, Occupancy}
use Rattle.fleet_search.proofs.intervals.have_all_begun.Goals as goal

pub returns-in-Some : goal.returns-in-Some
returns-in-Some c = λ h i d l.
    let last = c.in-Some.ensures.item.3 in
    let same = ap (λ (s : Occupancy). s.from) (last.1 d) in
    let told = leb-true c.in-Some.last.now.from c.args.time h in
    let up = c.requires i (length c.args.occupancies.now - 1) d (omega arith) (omega arith) in
    omega arith
