use Rattle.std.proofs.lemmas.Result.{IfOk-weaker}
use Rattle.fleet_verify.proofs.Words.{Bool, List, length, map, sym, ap, ◌∙◌, subst, length-map, nat_eq, get, Question, AreAnswers, question_of}
use Rattle.fleet_verify.proofs.Finish.{finish_numbers}
use Rattle.fleet_verify.proofs.OpenPairs.{flags_tell}
use Rattle.fleet_verify.proofs.order.find_violations.Goals as goal

pub first_flagged-requires : goal.first_flagged-requires
first_flagged-requires g c =
    let p = g.P.ProgramView.program c.args.program.now in
    let told = rw c.in-Some.is at c.in_ok-flags.ensures.some in
    ap (λ (fs : List Bool). length fs) c.deref-in-Some.ensures.value ∙ (told p c.requires.known.answers).all ∙ ap (λ (qs : List Question). length qs) (c.deref.ensures.value ∙ c.in_ok-questions.ensures) ∙ length-map c.args.pairs.now (question_of p)

pub returns-in-Some : goal.returns-in-Some
returns-in-Some g c =
    let p = g.P.ProgramView.program c.args.program.now in
    let pairs = c.args.pairs.now in
    let flags = c.deref-in-Some.result.now in
    let told = rw c.in-Some.is at c.in_ok-flags.ensures.some in
    let answers : AreAnswers p (map (question_of p) pairs) flags =
    subst (λ (qs : List Question). AreAnswers p qs flags) (c.deref.ensures.value ∙ c.in_ok-questions.ensures) (subst (λ (fs : List Bool). AreAnswers p c.deref.result.now fs) (sym c.deref-in-Some.ensures.value) (told p c.requires.known.answers)) in
    IfOk-weaker c.first_flagged.result _ _ (λ found h n. flags_tell p pairs flags answers n (get nat_eq found n) (h n)) c.first_flagged.ensures

pub returns : goal.returns
returns g c =
    let p = g.P.ProgramView.program c.args.program.now in
    let pairs = c.args.pairs.now in
    let flags = c.deref-2.result.now in
    let answers : AreAnswers p (map (question_of p) pairs) flags =
    subst (λ (qs : List Question). AreAnswers p qs flags) (c.in_ok-asked.ensures.questions ∙ c.in_ok-questions.ensures) (subst (λ (fs : List Bool). AreAnswers p c.in_ok-asked.asked.questions.items fs) (sym c.deref-2.ensures.value) c.in_ok-asked.ensures.answers) in
    IfOk-weaker c.first_flagged-2.result _ _ (λ found h n. flags_tell p pairs flags answers n (get nat_eq found n) (h n)) c.first_flagged-2.ensures

pub to-requires-clause-source : goal.to-requires-clause-source
to-requires-clause-source g c = finish_numbers (g.P.ProgramView.program c.args.program.now) c.requires.range c.args.ticks c.requires.finish

pub first_flagged-requires-2 : goal.first_flagged-requires-2
first_flagged-requires-2 g c =
    let asked = c.in_ok-asked.ensures in
    ap (λ (fs : List Bool). length fs) c.deref-2.ensures.value ∙ (asked.answers.all ∙ (ap (λ (qs : List Question). length qs) (asked.questions ∙ c.in_ok-questions.ensures) ∙ length-map c.args.pairs.now (question_of (g.P.ProgramView.program c.args.program.now))))
