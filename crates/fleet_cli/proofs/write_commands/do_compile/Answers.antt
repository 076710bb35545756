use Rattle.std.proofs.Common.{◌∙◌, inl, inr, refl, rules}
use Rattle.fleet_cli.proofs.write_commands.do_compile.Goals as goal

pub returns : goal.returns
returns g c =
    let made = c.in-Ok-compile_bytes.made in
    inl (made, search rules, rw (c.len.ensures ∙ made.bytes.ok.0) at c.write_out.ensures)

pub returns-in-Err-check : goal.returns-in-Err-check
returns-in-Err-check g c = inr (_, refl, (c.in-Ok.made, search rules, search rules), search rules, search rules)
