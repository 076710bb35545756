use Rattle.fleet_plan.proofs.Words.{◌≡◌, ◌+◌, ◌≤◌, false, ◌++◌, length, option_map, starts_blank, words, words_from_front, spelled_cells, MAX_CELLS}
use Rattle.fleet_plan.proofs.reading.path_of.Given as goal

abbrev pub invariant-loop-rest : goal.invariant-loop-rest
invariant-loop-rest l = record {
  front : starts_blank l.rest ≡ false;
  some : 1 ≤ length l.rest + length l.cells.items;
  few : length l.cells.items ≤ MAX_CELLS;
  so_far : option_map (λ cells. l.cells.items ++ cells) (spelled_cells (words l.rest)) ≡ spelled_cells (words_from_front l.line);
}

abbrev pub decreases-loop-rest : goal.decreases-loop-rest
decreases-loop-rest l = length (words l.rest)
