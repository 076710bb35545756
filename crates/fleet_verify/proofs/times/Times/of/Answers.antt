use Rattle.std.proofs.Common.{arith}
use Rattle.fleet_verify.proofs.Finish.{longest_numbers}
use Rattle.fleet_verify.proofs.times.Times.of.Goals as goal

pub of-requires : goal.of-requires
of-requires g c =
    let p = g.P.ProgramView.program c.program-program.result.now in
    let accepted = c.program-program.ensures.accepted in
    let f = longest_numbers p accepted.accepted.right.in_range c.args.accepted.now.chain accepted.longest in
    record {
      range = f.range;
      number = f.number;
      rising = f.rising;
      upto = λ a is. omega (arith, f.upto a is, c.chain.ensures.chain);
    }
