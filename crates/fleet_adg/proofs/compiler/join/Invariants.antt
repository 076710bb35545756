use Rattle.fleet_adg.proofs.Words.{◌≡◌, ◌++◌, flat_map, Deps, agent, steps, all_bytes_by}
use Rattle.fleet_adg.proofs.Joined.{parts}
use Rattle.fleet_adg.proofs.compiler.join.Given as goal

abbrev pub invariant-loop-i : goal.invariant-loop-i
invariant-loop-i l = (deps : Deps) → l.rows ≡ all_bytes_by l.plan deps l.version (steps l.plan) → l.out.items ≡ l.initial.out.items ++ flat_map (agent l.version) (parts l.plan deps l.stays l.i)
