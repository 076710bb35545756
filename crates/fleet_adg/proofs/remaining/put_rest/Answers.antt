use Rattle.fleet_adg.proofs.Words.{◌≤◌, ◌++◌, [], ◌∷◌, length, map, drop, ap, sym, ◌∙◌, arith, take_all, actions_of, count_at, rest_action}
use Rattle.fleet_adg.proofs.RestMade.{action_more}
use Rattle.fleet_adg.proofs.remaining.put_rest.Goals as goal

pub loop-finished-preserved : goal.loop-finished-preserved
loop-finished-preserved g c =
    let p = g.P.ProgramView.program c.args.program.now in
    let st = c.args.standings.now in
    record {
      from = omega (arith, c.loop-finished.invariant.from);
      made = c.in_ok-push.ensures.ok
          ∙ (ap (λ xs. xs ++ record { step = c.step-step.result; awaits = c.in_ok-awaits.awaits } ∷ []) c.loop-finished.invariant.made
          ∙ sym (action_more st p c.args.i (count_at st c.args.i) c.loop-finished.finished c.loop-finished.invariant.from c.step-step.result c.step-step.ensures c.in_ok-awaits.awaits c.in_ok-awaits.ensures));
    }

pub returns : goal.returns
returns g c =
    let p = g.P.ProgramView.program c.args.program.now in
    let st = c.args.standings.now in
    let acts = actions_of p c.args.i in
    let all : length acts ≤ c.loop-finished.finished = omega (arith, c.loop-finished-test.false, c.moves-count.ensures) in
    c.loop-finished.invariant.made ∙ ap (λ xs. map (rest_action st) (drop (count_at st c.args.i) xs)) (take_all c.loop-finished.finished acts all)
