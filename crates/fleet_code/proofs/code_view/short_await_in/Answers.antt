use Rattle.fleet_code.proofs.Words.{◌+◌, ◌*◌, sym, subst, arith, List, ℕ, StandsAt}
use Rattle.fleet_code.proofs.InPlace.{both_numbers, both_parts}
use Rattle.fleet_code.proofs.code_view.short_await_in.Goals as goal

pub returns : goal.returns
returns c =
    λ await agent_fits count_fits there.
    let both = c.long_number_in-both.ensures (await.agent * 65536 + await.count) (omega (arith, agent_fits, count_fits))
    (subst (λ (text : List ℕ). StandsAt c.args.bytes.now c.args.at text) (sym (both_numbers await.agent await.count agent_fits count_fits)) there) in
    both_parts await c.long_number_in-both.result agent_fits count_fits both
