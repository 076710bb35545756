use Rattle.fleet_verify.proofs.Words.{map, ap, ◌∙◌, take_all, question_of}
use Rattle.fleet_verify.proofs.order.questions_of.Goals as goal

pub returns : goal.returns
returns g c =
    c.loop-pair.invariant ∙ ap (map (question_of (g.P.ProgramView.program c.args.program.now))) (take_all c.loop-pair.pair-index c.args.pairs.now c.loop-pair-test.false)
