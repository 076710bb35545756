use Rattle.fleet_search.proofs.Words.{◌≡◌, ℕ, ◌<◌, [], items_at}
use Rattle.fleet_search.proofs.frontier.clear_rows.Given as goal

abbrev pub invariant-loop-row : goal.invariant-loop-row
invariant-loop-row l = (k : ℕ) → k < l.row-index → items_at l.row-items k ≡ []
