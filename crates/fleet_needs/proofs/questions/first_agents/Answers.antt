use Rattle.std.proofs.lemmas.Grind.{common_steps}
use Rattle.fleet_needs.proofs.Words.{arith, length-set, ◌∙◌, IsAskedFor, no_question}
use Rattle.std.proofs.lemmas.List.Elements.{All-from_get_or}
use Rattle.fleet_needs.proofs.Answered.{asked_more}
use Rattle.fleet_needs.proofs.questions.first_agents.Goals as goal

pub loop-k-preserved : goal.loop-k-preserved
loop-k-preserved g c =
    let was = c.loop-k.invariant in
    let agent = (c.requires c.loop-k.k no_question c.loop-k-test.true).agent in
    let more = asked_more c.args.questions.now c.loop-k.asked.items c.loop-k.k c.from-agent.result c.loop-k-test.true (omega (arith, agent, c.from-agent.ensures, was.all)) c.from-agent.ensures was.only was.flagged in
    record { all = length-set c.loop-k.asked.items _ _ ∙ was.all; only = more.0; flagged = more.1 }

pub returns : goal.returns
returns g c =
    let was = c.loop-k.invariant in
    record { all = omega (arith, was.all); each = All-from_get_or (IsAskedFor c.loop-k.asked.items) c.args.questions.now no_question (λ k l. was.flagged k (omega (arith, l, c.loop-k-test.false, c.loop-k.auto.k-end))); only = was.only }

pub loop-k-init : goal.loop-k-init
loop-k-init g c = grind (arith, common_steps)
