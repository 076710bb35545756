use Rattle.std.proofs.Common.{map, refl, string_bytes, sym}
use Rattle.fleet_args.specs.{Arguments.own, Arguments.said, Commands.fleet}
use Rattle.fleet_args.proofs.{NoCommand.unnamed, OwnWords.have_words, RequestLemmas.free, RequestLemmas.asks, RequestLemmas.stops}
use Rattle.fleet_args.proofs.request.read_words.Goals as goal

pub matches_by-requires : goal.matches_by-requires
matches_by-requires c = (fleet c.option_names-names.result, refl, c.fleet_command.ensures)

pub unreachable-requires : goal.unreachable-requires
unreachable-requires c =
    unnamed c.option_names-names.result (map string_bytes c.args.words.now) (sym c.in_default.ensures) (c.in-Ok.ensures.values (fleet c.option_names-names.result) c.fleet_command.ensures).0

pub returns-in_default : goal.returns-in_default
returns-in_default c =
    (c.option_names-names.result, c.option_names-names.ensures, c.in-Err.ensures.values (fleet c.option_names-names.result) c.fleet_command.ensures)

pub matches_by-requires-2 : goal.matches_by-requires-2
matches_by-requires-2 c =
    (own c.option_names-names.result (said c.in-Some.text.now), free c.option_names-names.result (map string_bytes c.args.words.now) _ c.in-Some.ensures, c.own_command.ensures)

pub request_by-requires : goal.request_by-requires
request_by-requires c =
    have_words c.option_names-names.result (map string_bytes c.args.words.now) _ c.in-Some.ensures c.own_command.result c.own_command.ensures
    c.in-Ok-matches_by.matches c.in-Ok-matches_by.ensures.parsed

pub returns-in-Err-matches_by : goal.returns-in-Err-matches_by
returns-in-Err-matches_by c =
    let names = c.option_names-names in
    let stop = c.in-Err-matches_by.stop in
    let h = c.in-Err-matches_by.ensures.values (own names.result (said c.in-Some.text.now)) c.own_command.ensures in
    (names.result, names.ensures, stops names.result (map string_bytes c.args.words.now) _ c.in-Some.ensures stop h)

pub returns-in-Ok-matches_by : goal.returns-in-Ok-matches_by
returns-in-Ok-matches_by c =
    let names = c.option_names-names in
    let takes = c.in-Ok-matches_by.ensures.values (own names.result (said c.in-Some.text.now)) c.own_command.ensures in
    let h = rw takes.1 at c.request_by.ensures in
    (names.result, names.ensures, asks names.result (map string_bytes c.args.words.now) _ c.in-Some.ensures c.request_by.result takes.0 h)
