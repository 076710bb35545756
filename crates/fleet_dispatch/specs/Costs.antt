-- What the actions of a program cost, by the lines of a text.
use Rattle.std.specs.Prelude.{◌≡◌, ℕ, ◌+◌, ◌<◌, ◌≤◌, Bool, true, ◌&&◌, ◌==◌, nat_le, nat_lt, max, List, [], ◌∷◌, ◌++◌, length, map, set, get_or, replicate, position, take, drop, Option, None, Some, Result, Ok, Err, Vec, option_and_then, option_map, if◌then◌else◌, ⊤}
use Rattle.std.specs.Option.{option_or, option_map_or}
use Rattle.std.specs.declared.alloc.Global.{Global}
use Rattle.fleet_model.specs.declared.program.ActionId.{ActionId}
use Rattle.fleet_model.specs.Program.{Program, moves}
use Rattle.fleet_model.specs.Chain.{IsAction}
use Rattle.fleet_model.specs.Machine.{indices}
use Rattle.fleet_needs.specs.declared.critical.TheConstants.{MAX_COST}
use Rattle.fleet_text.specs.Text.{Bytes, lines, is_space}
use Rattle.fleet_dispatch.specs.declared.form.ReportForm.TheVariants.{Numbered, Unnumbered}
use Rattle.fleet_dispatch.specs.declared.report.Reported.{Reported}
use Rattle.fleet_dispatch.specs.declared.costs.CostLine.{CostLine}
use Rattle.fleet_dispatch.specs.declared.times_fault.TimesFault.{TimesFault}
use Rattle.fleet_dispatch.specs.declared.times_fault.TimesFault.TheVariants.{OutOfMemory, Cost}
use Rattle.fleet_dispatch.specs.ReportText.{long_number, word_of}
use Rattle.fleet_dispatch.specs.Breaks.{named_action}

-- ---- what a line says

-- an action that a word names, or an agent, for all its actions
abbrev pub whose_of : Bytes → Option Reported
whose_of word = option_or (word_of Numbered word) (word_of Unnumbered word)

-- the cost that a word spells: at least one, and at most `MAX_COST`
abbrev pub cost_of : Bytes → Option ℕ
cost_of word = option_and_then (λ n. if nat_le 1 n && nat_le n MAX_COST then Some n else None) (long_number word)

-- whose cost a line says, and how much it is: two words with one space between them
abbrev pub cost_line_of : Bytes → Option CostLine
cost_line_of line =
    option_and_then
    (λ end. option_and_then (λ w. option_map (λ n. record { whose = w; cost = n }) (cost_of (drop (end + 1) line))) (whose_of (take end line)))
    (position is_space line)

-- the program has the action, or the agent
abbrev pub is_of : Program → Reported → Bool
is_of p w = nat_lt w.agent (length p) && option_map_or (λ n. nat_le 1 n && nat_le n (moves p w.agent)) w.number true

-- what a line says of a program
unfoldable pub cost_line_in : Program → Bytes → Option CostLine
cost_line_in p line = option_and_then (λ l. if is_of p l.whose then Some l else None) (cost_line_of line)

-- ---- what the lines of a text say

-- the line names this action; number 0 stands for all of the agent's
abbrev pub is_named : (agent number : ℕ) → CostLine → Bool
is_named i n l = ((named_action l.whose).agent == i) && ((named_action l.whose).number == n)

-- the cost in the last line that names it, or this one if none does
abbrev pub last_cost : (agent number : ℕ) → (otherwise : ℕ) → List CostLine → ℕ
last_cost i n otherwise [] = otherwise
last_cost i n otherwise (l ∷ said) = last_cost i n (if is_named i n l then l.cost else otherwise) said

-- what an action costs: as the last line says that names it; if none does, as the last one that names its agent; and
-- else one
abbrev pub cost_by : List CostLine → ActionId → ℕ
cost_by said a = last_cost a.agent a.number (last_cost a.agent 0 1 said) said

-- each line of the text says a cost of the program, and these are the costs of its actions by all of them
pub record AreCostsOf (p : Program) (text : Bytes) (cost : ActionId → ℕ) : Type 0 where
  pub said : List CostLine
  pub read : map (cost_line_in p) (lines text) ≡ map Some said
  pub costs : (a : ActionId) → IsAction p a → cost a ≡ cost_by said a

-- line n, counted from 1, is the first that says no cost of the program
pub record IsFirstNoCost (p : Program) (all : List Bytes) (n : ℕ) : Type 0 where
  pub before : List Bytes
  pub line : Bytes
  pub after : List Bytes
  pub said : List CostLine
  pub are : all ≡ before ++ line ∷ after
  pub read : map (cost_line_in p) before ≡ map Some said
  pub none : cost_line_in p line ≡ None
  pub number : n ≡ length before + 1

-- a line of the text says no cost of the program, and this is the first one; or there was no memory
abbrev pub IsCostsFault : Program → Bytes → TimesFault → Type 0
IsCostsFault p text OutOfMemory = ⊤
IsCostsFault p text (Cost n) = IsFirstNoCost p (lines text) n
IsCostsFault p text _ = ⊥

-- ---- how they are kept: a row for each agent, with what is said of all its actions, then of each one; 0 for nothing

-- what is said of it
abbrev pub entry : List (List ℕ) → (agent number : ℕ) → ℕ
entry rows i n = get_or (get_or rows i []) n 0

-- what an action costs by these rows
abbrev pub cost_in : List (List ℕ) → ActionId → ℕ
cost_in rows a = if nat_lt 0 (entry rows a.agent a.number) then entry rows a.agent a.number else max (entry rows a.agent 0) 1

-- the rows as lists
abbrev pub lists_of : List (Vec ℕ Global) → List (List ℕ)
lists_of rows = map (λ row. row.items) rows

-- no entry is more than an action may cost
abbrev pub AreLow : List (List ℕ) → Type 0
AreLow rows = (i n : ℕ) → entry rows i n ≤ MAX_COST

-- there is an entry for each agent, and for each action
pub record AreRowsOf (p : Program) (rows : List (List ℕ)) : Type 0 where
  pub all : length rows ≡ length p
  pub each : (i : ℕ) → i < length p → length (get_or rows i []) ≡ moves p i + 1

-- nothing is said yet
abbrev pub no_rows : Program → List (List ℕ)
no_rows p = map (λ i. replicate (moves p i + 1) 0) (indices (length p))

-- there is an entry for what the line says, which is a cost
pub record IsCostOf (p : Program) (l : CostLine) : Type 0 where
  pub agent : l.whose.agent < length p
  pub number : (named_action l.whose).number ≤ moves p l.whose.agent
  pub least : 1 ≤ l.cost
  pub most : l.cost ≤ MAX_COST

-- the rows with what a line says
abbrev pub noted : List (List ℕ) → CostLine → List (List ℕ)
noted rows l =
    set rows (named_action l.whose).agent (set (get_or rows (named_action l.whose).agent []) (named_action l.whose).number l.cost)

-- the rows with what the lines say, of which so many stand before these; or the first that says nothing
abbrev pub noted_by : Program → ℕ → List (List ℕ) → List Bytes → Result (List (List ℕ)) TimesFault
noted_by p before rows [] = Ok rows
noted_by p before rows (line ∷ others) =
    option_map_or (λ l. noted_by p (before + 1) (noted rows l) others) (cost_line_in p line) (Err (Cost (before + 1)))

-- the rows that are noted by the end, or the fault
abbrev pub with_rows : Result (Unit {0}) TimesFault → List (List ℕ) → Result (List (List ℕ)) TimesFault
with_rows (Ok _) rows = Ok rows
with_rows (Err fault) rows = Err fault
