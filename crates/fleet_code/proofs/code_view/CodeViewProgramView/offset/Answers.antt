use Rattle.std.proofs.Common.{arith}
use Rattle.fleet_code.proofs.InPlace.{offset_within}
use Rattle.fleet_code.proofs.code_view.CodeViewProgramView.offset.Goals as goal

pub after-requires-clause-within : goal.after-requires-clause-within
after-requires-clause-within c = offset_within _ _ _ _ c.args.k _ (omega (arith, c.awaits_up_to.ensures.value, c.from.ensures)) c.requires.last c.requires.place
