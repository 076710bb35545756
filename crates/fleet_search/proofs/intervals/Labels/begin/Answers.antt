use Rattle.fleet_search.proofs.Words.{◌+◌, refl, LabelState, AreLabels}
use Rattle.fleet_search.proofs.LabelLaws.{no_labels, next_search}
use Rattle.fleet_search.proofs.intervals.Labels.begin.Goals as goal
use Rattle.fleet_search.proofs.intervals.Labels.begin.Goals.{then-is_last, else-is_last}

pub invariant_of-self : goal.invariant_of-self
invariant_of-self c =
    let l = c.if-is_last.self-inside in
    let old : LabelState = record { search = l.search; table = l.table } in
    let was : AreLabels old = elim c.if-is_last.branch [ then-is_last w ↦ rw w.self-inside-is (no_labels (record { search = 0; table = w.new.result }) w.new.ensures) | else-is_last w ↦ rw w.self-inside-is c.self.invariant ] in
    (next_search old (record old { search = l.search + 1 }) was refl refl).0

pub returns : goal.returns
returns c =
    let l = c.if-is_last.self-inside in
    let old : LabelState = record { search = l.search; table = l.table } in
    let was : AreLabels old = elim c.if-is_last.branch [ then-is_last w ↦ rw w.self-inside-is (no_labels (record { search = 0; table = w.new.result }) w.new.ensures) | else-is_last w ↦ rw w.self-inside-is c.self.invariant ] in
    (next_search old (record old { search = l.search + 1 }) was refl refl).1
