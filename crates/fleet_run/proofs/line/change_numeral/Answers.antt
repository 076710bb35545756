use Rattle.std.proofs.Common.{rules}
use Rattle.fleet_run.proofs.line.change_numeral.Goals as goal

pub returns-then-patch-clause-kept : goal.returns-then-patch-clause-kept
returns-then-patch-clause-kept c =
    λ few ns kept at.
    search (rules, c.patch.ensures.kept c.if-patch.true ns c.args.separator kept (search (rules, at)))
