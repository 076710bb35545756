use Rattle.fleet_code.proofs.Words.{◌∙◌, arith, get_or_from_slice_get, part_at}
use Rattle.fleet_code.proofs.InPlace.{viewed, part_is, as_many_parts, end_within}
use Rattle.fleet_code.proofs.code_view.CodeView.part.Goals as goal

pub index-requires : goal.index-requires
index-requires c =
    let many = as_many_parts (viewed c.self.view_is c.self.invariant) in
    let len = c.self.inside.parts.ok.0 in
    let same = c.from.ensures in
    let lt = c.requires in
    omega (arith, many, len, same, lt)

pub returns : goal.returns
returns c =
    let v = viewed c.self.view_is c.self.invariant in
    let fits = c.self.told.0 in
    record {
      value = c.index.ensures ∙ rw c.from.ensures (get_or_from_slice_get c.self.inside.parts.items c.args.i (part_at c.args.self.now.version c.args.self.now.program c.args.i) c.index.result.now (part_is v c.args.i c.requires));
      well_formed = v.spelled.well_formed;
      short = λ n. let within = end_within v c.args.i n c.requires in omega (arith, within, fits);
    }
