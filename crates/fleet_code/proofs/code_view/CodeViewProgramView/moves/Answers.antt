use Rattle.std.proofs.Common.{arith}
use Rattle.fleet_code.proofs.InPlace.{as_many_offsets}
use Rattle.fleet_code.proofs.code_view.CodeViewProgramView.moves.Goals as goal

pub returns : goal.returns
returns c =
    let many = as_many_offsets c.args.self.now.version c.args.self.now.program c.args.i c.part.result.now c.part.ensures.value in
    let counted = c.moves.ensures in
    omega (arith, many, counted)
