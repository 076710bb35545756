use Rattle.std.proofs.Common.{sym, ◌∙◌}
use Rattle.std.proofs.lemmas.List.{take_rest}
use Rattle.fleet_scen.proofs.WordLaws.{past_first, past_one}
use Rattle.fleet_scen.proofs.reading.past_blank.Goals as goal

pub returns-in-len1-up : goal.returns-in-len1-up
returns-in-len1-up c =
    let some = c.in-len1-up.len_at_least in
    let blank = sym c.is_blank.ensures ∙ c.if-is_blank.true in
    record { line = rw take_rest (past_one c.args.line.now some blank); words = rw take_rest (past_first c.args.line.now some blank) }
