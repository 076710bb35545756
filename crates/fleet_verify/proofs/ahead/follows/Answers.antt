use Rattle.std.proofs.Common.{inl, inr}
use Rattle.fleet_verify.proofs.Waiting.{await_there}
use Rattle.fleet_verify.proofs.ahead.follows.Goals as goal

pub is_left_if_met-requires : goal.is_left_if_met-requires
is_left_if_met-requires g c = elim c.requires.latest [
  | inl own ↦ absurd (c.if-latest-second.false own)
  | inr asked ↦ await_there (g.P.ProgramView.program c.args.program.now) c.agents-agents.ensures.well_formed c.args.second.agent c.args.second.position c.args.latest asked
]
