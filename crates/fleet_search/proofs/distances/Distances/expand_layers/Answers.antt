use Rattle.std.proofs.Common.{refl, ◌∙◌}
use Rattle.fleet_search.proofs.Spread.{spread-turned}
use Rattle.fleet_search.proofs.distances.Distances.expand_layers.Goals as goal

pub loop-round-preserved : goal.loop-round-preserved
loop-round-preserved c =
    let i = c.loop-round.invariant in
    let same = c.expand_layer.ensures.same in
    rw c.next_layer.ensures record {
      grid = same.grid ∙ i.grid;
      search = record {
        spread = spread-turned c.expand_layer.new.self c.in_ok-expand_layer.ensures.done;
        next = refl;
        start = same.start ∙ i.search.start;
        goal = same.goal ∙ i.search.goal;
      };
    }
