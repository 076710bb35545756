use Rattle.fleet_verify.proofs.Words.{sym, subst, IsNumberedTo}
use Rattle.fleet_verify.proofs.Finish.{longest_numbers}
use Rattle.fleet_verify.proofs.reach.Reach.of.Goals as goal

pub of-requires : goal.of-requires
of-requires g c =
    let p = g.P.ProgramView.program c.program.result.now in
    let accepted = c.program.ensures.accepted in
    subst (IsNumberedTo p) (sym c.chain.ensures.chain) (longest_numbers p accepted.accepted.right.in_range c.args.accepted.now.chain accepted.longest)
