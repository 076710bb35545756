use Rattle.std.proofs.Common.{◌∙◌, sym}
use Rattle.fleet_dispatch.proofs.Outcomes.{Joins}
use Rattle.fleet_dispatch.proofs.Taking.{heard_report, heard_question, report_ends, answered, unanswered}
use Rattle.fleet_dispatch.proofs.run.take_line.Given
use Rattle.fleet_dispatch.proofs.run.take_line.Goals as goal

-- one stretch of talk after another
joins : (g : Given.Over) (a b d : g.row.F.Denot) → Joins (g.F.Floor.talks a b) (g.F.Floor.talks b d) (g.F.Floor.talks a d)
joins g a b d = record { join = g.met.F.Floor.joined a b d }

pub returns-in-Ok-Some-Report : goal.returns-in-Ok-Some-Report
returns-in-Ok-Some-Report g c =
    report_ends _ _ _ (joins g c.args.floor.now c.hear.new.self c.take_report.new.floor) (g.P.ProgramView.program c.args.program.now) c.args.pace (g.F.Floor.works c.take_report.new.floor) c.args.session.now c.take_report.new.session c.args.line
    (Unit {0}) c.hear.new.report c.take_report.result (heard_report (g.F.Floor.talks c.args.floor.now c.hear.new.self) (g.F.Floor.works c.hear.new.self) c.hear.new.report c.in-Ok-Some-Report.field-0 (cc) c.in-Ok-Some-Report.ensures).0 c.take_report.ensures

pub returns-then-is_err : goal.returns-then-is_err
returns-then-is_err g c =
    unanswered _ _ _ (joins g c.args.floor.now c.hear.new.self c.answer_question.new.floor) (g.P.ProgramView.program c.args.program.now) c.args.pace (g.F.Floor.works c.answer_question.new.floor) c.args.session.now c.answer_question.new.session c.args.line
    c.hear.new.report (heard_question (g.F.Floor.talks c.args.floor.now c.hear.new.self) (g.F.Floor.works c.hear.new.self) c.hear.new.report c.in-Ok-Some-Question.field-0 (cc) c.in-Ok-Some-Question.ensures).0 (Unit {0}) c.answer_question.result (sym c.is_err.ensures.value ∙ c.if-is_err.true) c.answer_question.ensures

pub returns-else-is_err : goal.returns-else-is_err
returns-else-is_err g c =
    answered _ _ _ (joins g c.args.floor.now c.hear.new.self c.answer_question.new.floor) (g.P.ProgramView.program c.args.program.now) c.args.pace (g.F.Floor.works c.answer_question.new.floor) c.args.session.now c.answer_question.new.session c.args.line
    c.hear.new.report (heard_question (g.F.Floor.talks c.args.floor.now c.hear.new.self) (g.F.Floor.works c.hear.new.self) c.hear.new.report c.in-Ok-Some-Question.field-0 (cc) c.in-Ok-Some-Question.ensures).0 (Unit {0}) c.answer_question.result tt (sym c.is_err.ensures.value ∙ c.if-is_err.false) c.answer_question.ensures
