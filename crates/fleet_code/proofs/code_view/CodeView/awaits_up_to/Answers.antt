use Rattle.std.proofs.Common.{arith}
use Rattle.fleet_code.proofs.InPlace.{offset_is, as_many_offsets}
use Rattle.fleet_code.proofs.code_view.CodeView.awaits_up_to.Goals as goal

pub offset-requires : goal.offset-requires
offset-requires c =
    let many = as_many_offsets c.args.self.now.version c.args.self.now.program c.args.i c.part.result.now c.part.ensures.value in
    let le = c.requires.actions in
    omega (arith, many, le)

pub overflow_sub-result : goal.overflow_sub-result
overflow_sub-result c =
    let is = offset_is c.args.self.now.version c.args.self.now.program c.args.i c.args.n c.offset.result c.part.result.now c.part.ensures.value c.offset.ensures c.requires.actions in
    omega (arith, is)

pub returns : goal.returns
returns c = record {
  value = (let is = offset_is c.args.self.now.version c.args.self.now.program c.args.i c.args.n c.offset.result c.part.result.now c.part.ensures.value c.offset.ensures c.requires.actions in omega (arith, is));
  well_formed = c.part.ensures.well_formed;
}
