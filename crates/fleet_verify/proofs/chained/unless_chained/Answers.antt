use Rattle.std.proofs.Common.{get_or}
use Rattle.fleet_verify.proofs.Words.{IfOk-weaker}
use Rattle.fleet_verify.proofs.Asked.{found_asked, known_none, chained_later}
use Rattle.fleet_verify.proofs.LevelOrder.{has_levels}
use Rattle.fleet_verify.proofs.chained.unless_chained.Goals as goal

pub ask_all-requires-clause-levels : goal.ask_all-requires-clause-levels
ask_all-requires-clause-levels g c = has_levels (g.P.ProgramView.program c.args.program.now) c.args.levels c.requires.levels

pub returns-in-Some : goal.returns-in-Some
returns-in-Some g c =
    let p = g.P.ProgramView.program c.args.program.now in
    let asked = rw c.in-Some.is at c.in_ok-questions.ensures.asked in
    IfOk-weaker c.answer_asked.result _ _ (found_asked p c.args.levels.rows.items c.args.pairs.items c.in-Some.questions.items asked c.requires.apart) c.answer_asked.ensures

pub returns-in-None : goal.returns-in-None
returns-in-None g c =
    let p = g.P.ProgramView.program c.args.program.now in
    let levels = has_levels p c.args.levels c.requires.levels in
    let none = rw c.in-None.is at c.in_ok-questions.ensures.none in
    record {
      chained = tt;
      unchained = λ all. none (λ k d l. chained_later p c.args.levels.rows.items (get_or c.args.pairs.items k d) levels (all k d l));
      known = known_none p c.none.result c.none.ensures.questions c.none.ensures.flags;
      asked = λ later. absurd (none later);
    }
