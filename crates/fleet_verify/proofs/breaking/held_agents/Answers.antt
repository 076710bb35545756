use Rattle.fleet_verify.proofs.Words.{ap, ◌∙◌, arith, length-set, is_held_by, ℕ, filter, indices}
use Rattle.fleet_verify.proofs.BreakingHolds.{those_more, those_same, tested_more}
use Rattle.fleet_verify.proofs.breaking.held_agents.Goals as goal
use Rattle.fleet_verify.proofs.breaking.held_agents.Goals.{then-is_held+in_ok-push, else-is_held}

pub loop-i-preserved : goal.loop-i-preserved
loop-i-preserved g c =
    let test = is_held_by (g.P.ProgramView.program c.args.program.now) c.args.machine.now.configuration c.args.needed.now in
    let old = c.loop-i.invariant in
    let is = c.is_held-is_held.ensures in
    record {
      row = elim c.if-is_held.branch [
        | then-is_held+in_ok-push w ↦ ap (λ r. r.items) w.row-is ∙ w.in_ok-push.ensures.items ∙ those_more test c.loop-i.row.items c.loop-i.i old.row c.is_held-is_held.result is w.if-is_held.true
        | else-is_held w ↦ ap (λ r. r.items) w.row-is ∙ those_same test c.loop-i.row.items c.loop-i.i old.row c.is_held-is_held.result is w.if-is_held.false
      ];
      all = length-set c.loop-i.flags c.loop-i.i c.is_held-is_held.result ∙ old.all;
      flags = tested_more test c.loop-i.flags c.loop-i.i c.is_held-is_held.result (omega (arith, old.all)) is old.flags;
    }

pub returns-clause-row : goal.returns-clause-row
returns-clause-row g c =
    let p = g.P.ProgramView.program c.args.program.now in
    let test = is_held_by p c.args.machine.now.configuration c.args.needed.now in
    c.loop-i.invariant.row ∙ ap (λ (n : ℕ). filter test (indices n)) (omega (arith, c.agents-i-end.ensures.count))
