-- Labels of safe intervals.
use Rattle.std.specs.Prelude.{◌≡◌, ◌≢◌, ℕ, zero, suc, ◌≤◌, ◌==◌, ◌⊎◌, cond, List, get_or, Option, None, Some}
use Rattle.fleet_grid.specs.Table.{value_in}
use Rattle.fleet_grid.specs.Lists.{list_at, key_of_number}
use Rattle.fleet_search.specs.declared.intervals.IntervalLabel.{IntervalLabel}
use Rattle.fleet_search.specs.declared.intervals.LabelTable.{LabelTable}

-- the label that stands for those past the end of a row: no search has come there
abbrev pub no_interval_label : IntervalLabel
no_interval_label = record { search = 0; time = 0 }

-- the labels of the later intervals of a cell
abbrev pub later_in : LabelTable → ℕ → List IntervalLabel
later_in l cell = list_at l.later (key_of_number cell)

-- the label of an interval of a cell
abbrev pub interval_label : LabelTable → ℕ → ℕ → IntervalLabel
interval_label l cell zero = value_in l.first cell
interval_label l cell (suc n) = get_or (later_in l cell) n no_interval_label

-- for each safe interval of each cell the earliest time at which a search has come there, if it has
abbrev pub Times : Type 0
Times = (cell interval : ℕ) → Option ℕ

-- the number of the latest search, and the labels, some of which are of earlier searches
pub record LabelState : Type 0 where
  pub search : ℕ
  pub table : LabelTable

-- the earliest times of the latest search
abbrev pub earliest_in : LabelState → Times
earliest_in l cell interval = cond ((interval_label l.table cell interval).search == l.search) (Some (interval_label l.table cell interval).time) None

-- there is an earliest time, and it is this one or before
pub record IsSeen (earliest : Option ℕ) (t : ℕ) : Type 0 where
  pub time : ℕ
  pub is : earliest ≡ Some time
  pub early : time ≤ t

-- no label is one of a later search
abbrev pub AreLabels : LabelState → Type 0
AreLabels l = (cell interval : ℕ) → (interval_label l.table cell interval).search ≤ l.search

-- the label is put, and the others stay
pub record IsLabelPut (old new : LabelTable) (cell interval : ℕ) (label : IntervalLabel) : Type 0 where
  pub set : interval_label new cell interval ≡ label
  pub others : (c n : ℕ) → (c ≢ cell) ⊎ (n ≢ interval) → interval_label new c n ≡ interval_label old c n

-- the time is the earliest in the interval, and the others have theirs as before
pub record IsLabelSet (old new : Times) (cell interval time : ℕ) : Type 0 where
  pub set : new cell interval ≡ Some time
  pub others : (c n : ℕ) → (c ≢ cell) ⊎ (n ≢ interval) → new c n ≡ old c n
