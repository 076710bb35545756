use Rattle.fleet_code.proofs.Words.{◌+◌, drop, ◌∙◌, refl, length-range_with_len}
use Rattle.fleet_code.proofs.Bare.{bare_actions, bare_offsets}
use Rattle.fleet_code.proofs.offsets.actions_in.Goals as goal

pub returns-then-are_bare-clause-value : goal.returns-then-are_bare-clause-value
returns-then-are_bare-clause-value c =
    let bare = c.if-are_bare.ensures.0 refl in
    let found = bare_actions c.args.head.version c.args.count c.args.head.whole c.args.head.agents c.args.own 0 c.args.bytes.now bare.there bare.steps in
    ((found.0, drop c.args.count c.args.bytes.now), found.1, (c.bare.ensures ∙ bare_offsets c.args.count found.0 found.2, c.split_at.ensures.back))

pub returns-then-are_bare-clause-count : goal.returns-then-are_bare-clause-count
returns-then-are_bare-clause-count c = rw c.bare.ensures (length-range_with_len 0 (c.args.count + 1))
