use Rattle.fleet_verify.proofs.Words.{is_passable}
use Rattle.fleet_verify.proofs.FoundUnless.{found_unless}
use Rattle.fleet_verify.proofs.Asked.{known_none}
use Rattle.fleet_verify.proofs.ahead.look_ahead.Goals as goal

pub returns-in-Ok-clause-unknown : goal.returns-in-Ok-clause-unknown
returns-in-Ok-clause-unknown g c =
    found_unless (is_passable c.args.grid.now) c.args.instance.now (g.P.ProgramView.program c.args.program.now) c.in-Ok.ahead c.in-Ok.ensures.still.ahead c.in-Ok.ensures.still.still c.judge_ahead.result c.judge_ahead.ensures.found

pub returns-in-Err-OffGround-clause-outlook : goal.returns-in-Err-OffGround-clause-outlook
returns-in-Err-OffGround-clause-outlook g c = known_none (g.P.ProgramView.program c.args.program.now) c.none.result c.none.ensures.questions c.none.ensures.flags
