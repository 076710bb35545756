use Rattle.fleet_needs.proofs.Words.{◌≡◌, ◌-◌, length, IsAnswering, questions_in}
use Rattle.fleet_needs.proofs.questions.Answering.answer_row.Given as goal

abbrev pub invariant-loop-self : goal.invariant-loop-self
invariant-loop-self g l = record { answers : IsAnswering (g.P.ProgramView.program l.program) l.rows l.number l.self; same : questions_in l.self ≡ questions_in l.fn.self }

abbrev pub decreases-loop-self : goal.decreases-loop-self
decreases-loop-self g l = length l.self.rows.items - l.self.next
