use Rattle.fleet_dispatch.proofs.Cited.{◌≡◌, ℕ, ◌<◌, ◌≤◌, ◌∙◌, None, length, get_or, ap, sym, subst, arith, false, take, take_all, get_or_default, Words, Counts, IsRising, count_of, counts_after, said_of, raised, Reported, CarriesOut}
use Rattle.fleet_dispatch.proofs.Words.{said_then, after_one_more}
use Rattle.fleet_dispatch.proofs.Steps.{led_counts}
use Rattle.fleet_dispatch.proofs.progress.Progress.take.Goals as goal

nobody : Reported
nobody = record { agent = 0; number = None }

-- the word at a place, whatever is asked for past the end
here : (items words : Words) (i : ℕ) (d : Reported) → items ≡ words → i < length items → get_or words i (get_or items i d) ≡ get_or items i d
here items words i d same l = ap (λ (ws : Words). get_or ws i (get_or items i d)) (sym same) ∙ get_or_default items i (get_or items i d) d l

pub said-said-requires-clause-counts : goal.said-said-requires-clause-counts
said-said-requires-clause-counts g c =
    let p = g.P.ProgramView.program c.args.program.now in
    led_counts p (λ i. false) c.requires.leads.0 c.loop-word.self (c.loop-word.invariant.leads c.requires.leads.0 c.requires.leads.1)

pub raise-requires-clause-leads : goal.raise-requires-clause-leads
raise-requires-clause-leads g c = (c.requires.leads.0, c.loop-word.invariant.leads c.requires.leads.0 c.requires.leads.1)

pub raise-requires-clause-told : goal.raise-requires-clause-told
unfolding nobody
raise-requires-clause-told g c =
    let items = c.words-word-items.result.now in
    let words = c.args.report.now in
    let i = c.loop-word.word-index in
    let w = get_or items i nobody in
    let same = c.words-word-items.ensures.words in
    let l : i < length words = omega (arith, c.loop-word-test.true, ap length same) in
    let rising : IsRising words = subst IsRising same c.words-word-items.ensures.rising in
    let at = here items words i nobody same c.loop-word-test.true in
    let inv = c.loop-word.invariant in
    let then : said_of c.loop-word.self.done w ≡ said_of c.args.self.now.done w = ap (λ (x : Counts). said_of x w) inv.done ∙ said_then c.args.self.now.done words rising i w l at in
    let ordered : said_of c.args.self.now.done w ≤ count_of c.args.self.now.told w.agent = subst (λ (x : Reported). said_of c.args.self.now.done x ≤ count_of c.args.self.now.told x.agent) at (c.requires.ordered i w l).1 in
    omega (arith, c.said-said.ensures, then, ordered, ap (λ (x : Counts). count_of x w.agent) inv.told)

pub loop-word-preserved : goal.loop-word-preserved
unfolding nobody
loop-word-preserved g c =
    let items = c.words-word-items.result.now in
    let words = c.args.report.now in
    let i = c.loop-word.word-index in
    let w = get_or items i nobody in
    let same = c.words-word-items.ensures.words in
    let l : i < length words = omega (arith, c.loop-word-test.true, ap length same) in
    let at = here items words i nobody same c.loop-word-test.true in
    let inv = c.loop-word.invariant in
    record {
      leads = λ k before. c.raise.ensures.leads k (inv.leads k before);
      done = c.raise.ensures.done ∙ ap (raised c.loop-word.self.done w.agent) c.said-said.ensures ∙ ap (λ (x : Counts). raised x w.agent (said_of x w)) inv.done ∙ sym (after_one_more c.args.self.now.done words i w l at);
      told = c.raise.ensures.told ∙ inv.told;
    }

pub returns : goal.returns
returns g c =
    let p = g.P.ProgramView.program c.args.program.now in
    let words = c.args.report.now in
    let all : take c.loop-word.word-index words ≡ words = take_all c.loop-word.word-index words (omega (arith, c.loop-word-test.false, ap length c.words-word-items.ensures.words)) in
    subst (λ (ws : Words). CarriesOut p c.args.self.now c.loop-word.self (counts_after c.args.self.now.done ws)) all c.loop-word.invariant
