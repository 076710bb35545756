use Rattle.fleet_verify.proofs.Words.{◌∙◌, tick_agree, flag_of, is_held_by}
use Rattle.fleet_verify.proofs.breaking.run_tick.Goals as goal

pub returns-clause-after : goal.returns-clause-after
returns-clause-after g c =
    let p = g.P.ProgramView.program c.args.program.now in
    let before = c.args.machine.now.configuration in
    c.tick.ensures.after ∙ tick_agree p (flag_of c.held_agents.new.flags) (is_held_by p before c.args.needed.now) before c.in_ok-row.ensures.flags
