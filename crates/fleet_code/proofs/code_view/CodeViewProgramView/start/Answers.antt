use Rattle.fleet_code.proofs.Words.{arith, start_of, cell, begin_of}
use Rattle.fleet_code.proofs.InPlace.{viewed, start_stands, stands_within}
use Rattle.fleet_code.proofs.code_view.CodeViewProgramView.start.Goals as goal

pub cell_in-requires : goal.cell_in-requires
cell_in-requires c =
    let there = start_stands (viewed c.self.view_is c.self.invariant) c.args.i c.requires in
    let within = stands_within c.self.inside.bytes.now (begin_of c.args.self.now.version c.args.self.now.program c.args.i) (cell (start_of c.args.self.now.program c.args.i)) there (omega arith) in
    let at = c.begin.ensures.value in
    omega (arith, within, at)

pub returns : goal.returns
returns c =
    let v = viewed c.self.view_is c.self.invariant in
    c.cell_in.ensures (start_of c.args.self.now.program c.args.i) (v.spelled.well_formed.starts c.args.i) (rw c.begin.ensures.value (start_stands v c.args.i c.requires))
