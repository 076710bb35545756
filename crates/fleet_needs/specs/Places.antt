-- The places of awaits, and of the rows that stand for actions, among all of a program.
use Rattle.std.specs.Prelude.{◌≡◌, ℕ, ◌+◌, ◌<◌, List, length, take, slice_index}
use Rattle.fleet_model.specs.declared.program.ActionId.{ActionId}
use Rattle.fleet_model.specs.Program.{Program, awaits_before, total_awaits}

-- for each of the first n agents, how much those before it have together
pub record AreFirsts (before : ℕ → ℕ) (n : ℕ) (firsts : List ℕ) : Type 0 where
  pub all : length firsts ≡ n
  pub each : (i : ℕ) → i < n → slice_index firsts i ≡ before i

-- the place of the row that stands for an action, or, with the number 0, for none of its agent: there is one for each
-- agent, and then one for each of its awaits, of which an action has the last one up to it
abbrev pub row_place : Program → ActionId → ℕ
row_place p a = total_awaits (take a.agent p) + a.agent + awaits_before p a.agent a.number

-- where those of an agent begin, before its first action
abbrev pub row_first : Program → ℕ → ℕ
row_first p i = row_place p (record { agent = i; number = 0 })
