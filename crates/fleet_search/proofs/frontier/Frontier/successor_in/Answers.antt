use Rattle.fleet_search.proofs.Words.{ℕ, ◌+◌, ◌-◌, ◌≤◌, subst, arith, IsInInterval, IsEarliestWithin}
use Rattle.fleet_search.proofs.SearchSteps.{found_already, found_in-none, found_in-late, found_in-first}
use Rattle.fleet_search.proofs.frontier.Frontier.successor_in.Goals as goal

pub returns-in_default : goal.returns-in_default
returns-in_default c = found_already _ _ _ _ _ c.requires.leaving
    (found_in-none c.args.query.now c.args.self.now.nodes c.args.left.state c.args.neighbour.now.cell c.args.interval (subst (λ z. (s : ℕ) → c.args.left.state.time + 1 ≤ s → IsInInterval z c.args.interval s → ⊥) c.requires.neighbour.occupancies c.in_default.ensures.none))

pub returns-then-is_late : goal.returns-then-is_late
returns-then-is_late c = found_already _ _ _ _ _ c.requires.leaving
    (found_in-late c.args.query.now c.args.self.now.nodes c.args.left.state c.args.neighbour.now.cell c.args.interval c.in-Some.time c.args.left.until c.requires.leaving.horizon c.requires.leaving.until (subst (λ z. IsEarliestWithin z c.args.interval (c.args.left.state.time + 1) c.in-Some.time) c.requires.neighbour.occupancies c.in-Some.ensures.some) (omega arith))

pub returns : goal.returns
returns c =
    let first = subst (λ z. IsEarliestWithin z c.args.interval (c.args.left.state.time + 1) c.in-Some.time) c.requires.neighbour.occupancies c.in-Some.ensures.some in
    let later = first.later in
    record {
      expands_on = c.in_ok-push_successor.ensures.expands_on;
      found = found_in-first c.args.query.now c.requires.leaving.frontier.measured c.push_successor.new.self.nodes c.args.left.state c.args.neighbour.now.cell c.args.interval c.in-Some.time (c.in-Some.time - 1) first (omega arith) c.in_ok-push_successor.ensures.found;
    }

pub push_successor-requires-clause-leaving : goal.push_successor-requires-clause-leaving
push_successor-requires-clause-leaving c = c.requires.leaving

pub push_successor-requires-clause-neighbour : goal.push_successor-requires-clause-neighbour
push_successor-requires-clause-neighbour c = c.requires.neighbour

pub earliest_after-requires-clause-bound : goal.earliest_after-requires-clause-bound
earliest_after-requires-clause-bound c = c.requires.interval
