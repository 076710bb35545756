use Rattle.fleet_verify.proofs.Words.{refl, is_passable}
use Rattle.fleet_verify.proofs.Promised.{promised, refused_rightly}
use Rattle.fleet_verify.proofs.verifier.verify.Goals as goal

pub returns-in-Ok : goal.returns-in-Ok
returns-in-Ok g c =
    let ok = c.in-Ok.ensures.ok in
    rw c.new.ensures
    record {
      kept = (refl, refl, refl);
      accepted = ok;
      promised = promised (is_passable c.args.grid.now) c.args.instance.now (g.P.ProgramView.program c.args.program) ok.accepted c.in-Ok.judged.chain ok.longest;
      returned = tt;
      refused = tt;
    }

pub returns-in-Err-clause-refused : goal.returns-in-Err-clause-refused
returns-in-Err-clause-refused g c =
    refused_rightly (is_passable c.args.grid.now) c.args.instance.now (g.P.ProgramView.program c.args.program) c.in-Err.ensures.formed c.in-Err.fault c.in-Err.ensures.err
