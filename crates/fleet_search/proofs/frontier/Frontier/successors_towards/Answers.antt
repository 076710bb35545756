use Rattle.std.proofs.lemmas.Result.{on_ok_weaker}
use Rattle.fleet_search.proofs.SearchSteps.{found_dir}
use Rattle.fleet_search.proofs.frontier.Frontier.successors_towards.Goals as goal

pub returns-in-Some : goal.returns-in-Some
returns-in-Some c =
    on_ok_weaker c.successors_at.result (λ w. record {
      expands_on = w.expands_on;
      found = found_dir c.args.query.now c.successors_at.new.self.nodes c.args.left.state c.in-Some.cell c.args.dir c.in-Some.ensures.some.0 w.found;
    }) c.successors_at.ensures
