use Rattle.std.proofs.Common.{Err, inl, inr, refl}
use Rattle.fleet_cli.proofs.RunLemmas.{nothing_written}
use Rattle.fleet_cli.proofs.command.run_request.Goals as goal

pub returns-in-Ok : goal.returns-in-Ok
returns-in-Ok g c =
    let texts = rw c.names_of.ensures at c.in-Ok.ensures.read in
    (c.answer_request.result, inl (c.in-Ok.texts, _, texts, c.read_files.ensures.kept, c.answer_request.ensures), c.finish.ensures)

pub returns-in-Err : goal.returns-in-Err
returns-in-Err g c =
    let fault = rw c.names_of.ensures at c.in-Err.ensures.read in
    (Err c.in-Err.fault, inr ((c.in-Err.fault, refl, fault, nothing_written _ c.requires.out_working), c.read_files.ensures.kept, refl, refl), (c.refuse.ensures.written, c.refuse.ensures.status))
