use Rattle.fleet_code.proofs.Words.{◌+◌, ◌∷◌, [], ◌++◌, refl, arith, Two, two_bytes, count, StandsAt}
use Rattle.fleet_code.proofs.InPlace.{front_stands, back_stands}
use Rattle.fleet_code.proofs.code_view.await_in.Goals as goal

pub returns-in-One : goal.returns-in-One
returns-in-One c =
    rw c.in-One.is (λ await agent_fits count_fits there.
    c.short_await_in.ensures await agent_fits (omega (arith, count_fits)) (back_stands c.args.bytes.now c.args.at (16 ∷ []) (two_bytes await.agent ++ two_bytes await.count) there))

pub returns-in-Two : goal.returns-in-Two
returns-in-Two c =
    rw c.in-Two.is (λ await agent_fits count_fits there.
    let after : StandsAt c.args.bytes.now (c.args.at + 1) (two_bytes await.agent ++ count Two await.count) = back_stands c.args.bytes.now c.args.at (16 ∷ []) (two_bytes await.agent ++ count Two await.count) there in
    let agent = c.number_in.ensures await.agent agent_fits (front_stands c.args.bytes.now (c.args.at + 1) (two_bytes await.agent) (count Two await.count) after) in
    let counted = c.long_number_in.ensures await.count (omega (arith, count_fits)) (back_stands c.args.bytes.now (c.args.at + 1) (two_bytes await.agent) (count Two await.count) after) in
    rw (agent, counted) refl)
