use Rattle.std.proofs.Common.{inl, inr, ◌∙◌, refl}
use Rattle.std.proofs.lemmas.Result.{err_from_is_err_and}
use Rattle.fleet_cli.proofs.RunLemmas.{nothing_written}
use Rattle.fleet_cli.proofs.write_commands.do_rest.Goals as goal

pub returns-in_err-dead : goal.returns-in_err-dead
returns-in_err-dead g c =
    let e = err_from_is_err_and c.from_residual-in_err-dead.result c.from_residual-in_err-dead.ensures.1 in
    inr (_, e.1, rw e.2 (inr (_, c.in_ok-program.ensures.left, c.in_err-dead.ensures.fault)), refl, nothing_written _ c.requires)

pub returns : goal.returns
returns g c =
    let texts = c.in_ok-texts.texts in
    inl ((c.in_ok-program.program, texts), (c.in_ok-program.ensures.left, (_, c.in_ok-dead.ensures.dead, c.in_ok-texts.ensures)), rw (c.agents.ensures.count, c.total_moves.ensures, c.total_awaits.ensures, c.len.ensures ∙ texts.bytes.ok.0) at c.write_out.ensures)
