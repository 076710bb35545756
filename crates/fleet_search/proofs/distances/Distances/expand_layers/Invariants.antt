use Rattle.fleet_search.proofs.Words.{◌≡◌, IsSearchFor}
use Rattle.fleet_search.proofs.distances.Distances.expand_layers.Given as goal

abbrev pub invariant-loop-round : goal.invariant-loop-round
invariant-loop-round l = record {
  grid : l.self.grid ≡ l.initial.self.grid;
  search : IsSearchFor l.initial.self.start l.initial.self.goal l.self;
}
