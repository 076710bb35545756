use Rattle.std.proofs.lemmas.Bool.{leb-true, le-leb}
use Rattle.fleet_search.proofs.reservations.Reservations.is_free_from.Goals as goal

pub returns-in-Some : goal.returns-in-Some
returns-in-Some c =
    let free = c.in-Some.ensures.some c.args.time in
    (λ h. free.1 (leb-true c.in-Some.from c.args.time h), λ h. le-leb c.in-Some.from c.args.time (free.0 h))
