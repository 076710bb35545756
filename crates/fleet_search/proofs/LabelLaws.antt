-- Labels of safe intervals.
use Rattle.fleet_search.proofs.Words.{◌≡◌, ◌≢◌, ℕ, ◌+◌, ◌≤◌, ◌==◌, ◌⊎◌, cond, inl, inr, refl, ap, ◌∙◌, arith, Some, None, Option, cases_eq, eq-eqb, eqb-true, false_from_ne_true, IntervalLabel, LabelTable, LabelState, no_interval_label, interval_label, earliest_in, AreLabels, IsLabelPut, IsLabelSet}

-- what a label says to a search
abbrev said : ℕ → IntervalLabel → Option ℕ
said search l = cond (l.search == search) (Some l.time) None

-- the search goes on with another table
abbrev pub with_table : LabelState → LabelTable → LabelState
with_table l table = record l { table = table }

module _ (old : LabelState) (table : LabelTable) (cell interval time : ℕ) (put : IsLabelPut old.table table cell interval (record { search = old.search; time = time })) where
  -- a label of this search is put
  pub label_is_set : IsLabelSet (earliest_in old) (earliest_in (with_table old table)) cell interval time
  label_is_set = record {
    set = ap (said old.search) put.set ∙ ap (λ b. cond b (Some time) None) (eq-eqb old.search old.search refl);
    others = λ c n w. ap (said old.search) (put.others c n w);
  }

  other : AreLabels old → (c n : ℕ) → (c ≢ cell) ⊎ (n ≢ interval) → (interval_label table c n).search ≤ old.search
  other were c n w =
      let same = ap (λ (z : IntervalLabel). z.search) (put.others c n w) in
      let before = were c n in
      omega (arith, same, before)

  pub labels_stay : AreLabels old → AreLabels (with_table old table)
  labels_stay were = λ c n. elim (cases_eq c cell) [
    | inr ne ↦ other were c n (inl ne)
    | inl s ↦ elim (cases_eq n interval) [
      | inr ne ↦ other were c n (inr ne)
      | inl t ↦
          let same = ap (λ (z : IntervalLabel). z.search) (ap (λ z. interval_label table z n) s ∙ ap (interval_label table cell) t ∙ put.set) in
          omega (arith, same)
    ]
  ]

-- in a table without labels none is of a later search
pub no_labels : (l : LabelState) → ((c n : ℕ) → interval_label l.table c n ≡ no_interval_label) → AreLabels l
no_labels l none c n = let same = ap (λ (z : IntervalLabel). z.search) (none c n) in omega (arith, same)

-- a search begins
pub next_search : (l m : LabelState) → AreLabels l → m.search ≡ l.search + 1 → m.table ≡ l.table → AreLabels m × ((c n : ℕ) → earliest_in m c n ≡ None)
next_search l m were later same = (
  λ c n. (let s = label c n in let p = were c n in omega (arith, s, p, later)),
  λ c n. ap (λ b. cond b (Some (interval_label m.table c n).time) None) (false_from_ne_true ((interval_label m.table c n).search == m.search) (λ t.
      let e = eqb-true (interval_label m.table c n).search m.search t in
      let s = label c n in
      let p = were c n in
      absurd (omega (arith, e, s, p, later)))),
)
  where
    label : (c n : ℕ) → (interval_label m.table c n).search ≡ (interval_label l.table c n).search
    label c n = ap (λ (t : LabelTable). (interval_label t c n).search) same
