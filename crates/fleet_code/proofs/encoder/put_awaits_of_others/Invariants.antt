use Rattle.fleet_code.proofs.Words.{◌≡◌, ◌++◌, ◌==◌, not, filter, take, flat_map}
use Rattle.fleet_code.specs.Spelling.{await}
use Rattle.fleet_code.proofs.encoder.put_awaits_of_others.Given as goal

abbrev pub invariant-loop-one : goal.invariant-loop-one
invariant-loop-one l = l.out.items ≡ l.fn.out.items ++ flat_map (await l.version) (filter (λ w. not (w.agent == l.own)) (take l.one-index l.awaits))
