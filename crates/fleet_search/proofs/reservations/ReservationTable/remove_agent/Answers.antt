use Rattle.fleet_search.proofs.Words.{◌==◌, rules, not, Occupancy, key_of_cell}
use Rattle.fleet_search.proofs.reservations.ReservationTable.remove_agent.Goals as goal

pub returns : goal.returns
returns c = λ q. c.retain.ensures (λ (s : Occupancy). not (s.agent == c.args.agent)) (λ x b k. search rules) (key_of_cell q)
