use Rattle.fleet_dispatch.proofs.Cited.{◌≡◌, ℕ, length, replicate, sym, ap, subst, ◌∙◌, Some, rules, same_Some, Words, NameActions, breaks_from}
use Rattle.fleet_dispatch.proofs.breaks.breaks_of.Goals as goal

pub returns-then-note_breaks-clause-named : goal.returns-then-note_breaks-clause-named
returns-then-note_breaks-clause-named g c =
    let p = g.P.ProgramView.program c.args.program.now in
    let read = rw c.if-not-read_report.false at c.read_report.ensures in
    let found = rw c.if-note_breaks.true at c.note_breaks.ensures in
    let long : c.from-agents.result ≡ length p = c.from-agents.ensures ∙ c.agents.ensures.count in
    record {
      words = c.words.result.now;
      read = read ∙ ap Some (sym c.words.ensures.words);
      actions = found.0;
      noted = found.1 ∙ ap (λ breaks. breaks_from breaks c.words.result.now) (c.in-Ok-vec.ensures.items_if_clones_equal (λ y k. search rules) ∙ ap (λ (n : ℕ). replicate n 0) long);
    }

pub returns-clause-fault : goal.returns-clause-fault
returns-clause-fault g c = λ words read named.
    let p = g.P.ProgramView.program c.args.program.now in
    let heard = rw c.if-not-read_report.false at c.read_report.ensures in
    let none = rw c.if-note_breaks.false at c.note_breaks.ensures in
    let same : words ≡ c.words.result.now = same_Some words c.read_report.new.report (sym read ∙ heard) ∙ sym c.words.ensures.words in
    none (subst (λ (ws : Words). NameActions p ws) same named)
