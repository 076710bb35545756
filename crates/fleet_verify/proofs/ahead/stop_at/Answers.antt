use Rattle.fleet_verify.proofs.Words.{◌≡◌, ◌≤◌, ℕ, List, length, sym, subst, climbed, last_level}
use Rattle.fleet_verify.proofs.Climbing.{row_there}
use Rattle.fleet_verify.proofs.ahead.stop_at.Goals as goal

pub climb-requires-clause-begun : goal.climb-requires-clause-begun
climb-requires-clause-begun c =
    let here = row_there c.args.ahead.now.rows.items c.args.agent c.from-2.result c.index_mut-2.result.now c.requires.rows c.from-2.ensures c.index_mut-2.ensures.value in
    subst (λ (row : List ℕ). length row ≤ c.args.runner.finished) (sym here) c.requires.begun

pub climb-requires-clause-last : goal.climb-requires-clause-last
climb-requires-clause-last c =
    let here = row_there c.args.ahead.now.rows.items c.args.agent c.from-2.result c.index_mut-2.result.now c.requires.rows c.from-2.ensures c.index_mut-2.ensures.value in
    subst (λ (row : List ℕ). c.args.runner.level ≡ last_level (climbed row c.args.runner.finished)) (sym here) c.requires.level
