use Rattle.fleet_needs.proofs.Words.{◌<◌, ◌∙◌, ap, arith, sym, subst, get_or-map, get_or_read, length, length-map, IsAwaiting, action_of_key, no_action}
use Rattle.fleet_needs.proofs.schedule.named.Goals as goal

pub returns-clause-is : goal.returns-clause-is
returns-clause-is g c =
    let keys = c.args.keys.now.items in
    let n = c.args.n in
    let within : n < length keys = omega (arith, c.requires.within, length-map keys action_of_key) in
    let at = get_or-map action_of_key keys n 0 no_action within ∙ ap action_of_key (sym (get_or_read keys n c.index.result.now within c.index.ensures 0)) ∙ sym c.action_in.ensures in
    subst (IsAwaiting (g.P.ProgramView.program c.args.program.now)) at (c.requires.keys n no_action c.requires.within)
