-- The columns of one block of rows.
use Rattle.std.specs.Prelude.{◌≡◌, ◌≢◌, ℕ, ◌<◌, ◌≤◌, Bool, true, false, List, length, get_or, Option, Some, None}
use Rattle.fleet_needs.specs.declared.join_pass.Columns.{Columns}

-- of how many agents the columns tell
abbrev pub agents_in : Columns → ℕ
agents_in columns = length columns.of_agent.items

-- the column of agent j, if it has one
abbrev pub column_of : Columns → ℕ → Option ℕ
column_of columns j = get_or columns.of_agent.items j None

-- so many columns, none of them of two agents
pub record AreApart (columns : Columns) (width : ℕ) : Type 0 where
  pub within : (j k : ℕ) → column_of columns j ≡ Some k → k < width
  pub apart : (i j k : ℕ) → column_of columns i ≡ Some k → column_of columns j ≡ Some k → i ≡ j

-- from this agent on each flagged one has a column of its own, up to the block's end
pub record AreColumns (asked : List Bool) (from : ℕ) (columns : Columns) : Type 0 where
  pub agents : agents_in columns ≡ length asked
  pub first : columns.first ≡ from
  pub on : from < columns.end
  pub end : columns.end ≤ length asked
  pub chosen : (j : ℕ) → from ≤ j → j < columns.end → get_or asked j false ≡ true → column_of columns j ≢ None
  pub within : (j k : ℕ) → column_of columns j ≡ Some k → k < columns.width
  pub apart : (i j k : ℕ) → column_of columns i ≡ Some k → column_of columns j ≡ Some k → i ≡ j
