-- The columns of one block, and what its rows answer.
use Rattle.std.specs.Prelude.{◌≡◌, ◌≢◌, ℕ, ◌<◌, ◌≤◌, Bool, true, Some, None, ◌↔◌}
use Rattle.fleet_needs.specs.Words.{Program, Reaches}
use Rattle.fleet_needs.specs.Columns.{column_of}
use Rattle.fleet_needs.specs.declared.join_pass.Columns.{Columns}
use Rattle.fleet_needs.specs.declared.questions.Question.{Question}

-- agent j has column k
abbrev pub HasColumn : Columns → ℕ → ℕ → Type 0
HasColumn columns j k = column_of columns j ≡ Some k

-- the flag says whether no chain begins with the first action and ends with the last
abbrev pub IsAnswer : Program → Question → Bool → Type 0
IsAnswer p q flag = (flag ≡ true) ↔ (Reaches p q.first q.last → ⊥)

-- if the question's first agent is one of the block, it has a column
abbrev pub HasItsColumn : Columns → Question → Type 0
HasItsColumn columns q = columns.first ≤ q.first.agent → q.first.agent < columns.end → column_of columns q.first.agent ≢ None
