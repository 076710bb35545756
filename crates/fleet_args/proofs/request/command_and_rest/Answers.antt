use Rattle.std.proofs.Common.{Some, None, ap, map, string_bytes}
use Rattle.fleet_args.proofs.RequestLemmas.{named}
use Rattle.fleet_args.proofs.request.command_and_rest.Goals as goal

pub returns-in-Some : goal.returns-in-Some
returns-in-Some c =
    named c.commands.result.now c.commands.ensures (map string_bytes c.args.words.now) (map string_bytes c.in_ok-name.rest.now) (string_bytes c.in_ok-name.name.now) c.as_str.result.now
    (ap (map string_bytes) c.in_ok-name.ensures.cases.0) c.as_str.ensures.value (Some c.in-Some.text) c.in-Some.ensures

pub returns-in-None : goal.returns-in-None
returns-in-None c =
    named c.commands.result.now c.commands.ensures (map string_bytes c.args.words.now) (map string_bytes c.in_ok-name.rest.now) (string_bytes c.in_ok-name.name.now) c.as_str.result.now
    (ap (map string_bytes) c.in_ok-name.ensures.cases.0) c.as_str.ensures.value None c.in-None.ensures
