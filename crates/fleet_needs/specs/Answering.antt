-- Questions in the order of their rows: those that are answered so far.
use Rattle.std.specs.Prelude.{◌≡◌, ◌⊎◌, ℕ, ◌<◌, ◌≤◌, false, All, Bool, List, Vec, length, get_or, slice_index}
use Rattle.std.specs.List.Sorted.{IsNonDecreasingBy}
use Rattle.std.specs.declared.alloc.Global.{Global}
use Rattle.fleet_needs.specs.Words.{ActionId, Program}
use Rattle.fleet_needs.specs.Asked.{IsQuestion, AreAskedFor}
use Rattle.fleet_needs.specs.Block.{HasItsColumn, IsAnswer}
use Rattle.fleet_needs.specs.Joins.{AreOwn, StandsFor}
use Rattle.fleet_needs.specs.Schedule.{joins_of, AreColumnsOf, AreRowCounts}
use Rattle.fleet_needs.specs.Counts.{made_row}
use Rattle.fleet_needs.specs.declared.questions.Answering.{Answering}
use Rattle.fleet_needs.specs.declared.questions.Question.{Question}
use Rattle.fleet_needs.specs.declared.questions.RowQuestion.{RowQuestion}
use Rattle.fleet_needs.specs.declared.join_pass.{Columns.Columns, SlotRows.SlotRows}
use Rattle.fleet_needs.specs.declared.schedule.Schedule.{Schedule}

-- what is read past the questions
abbrev pub no_question : Question
no_question = record { first = record { agent = 0; number = 0 }; last = record { agent = 0; number = 0 } }

-- question k of these
abbrev pub question_of : List Question → ℕ → Question
question_of questions k = get_or questions k no_question

-- the row stands for the last action of the question at this place
pub record IsByRow (p : Program) (joins : List ActionId) (questions : List Question) (x : RowQuestion) : Type 0 where
  pub place : x.place < length questions
  pub row : x.row ≤ length joins
  pub stands : StandsFor p joins x.row (question_of questions x.place).last.agent (question_of questions x.place).last.number

-- the questions
abbrev pub questions_in : Answering → List Question
questions_in m = m.questions.now

-- what is read past the rows
abbrev pub unlisted : RowQuestion
unlisted = record { row = 0; place = 0 }

-- what is listed after n others
abbrev pub listed_at : Answering → ℕ → RowQuestion
listed_at m n = get_or m.rows.items n unlisted

-- its question
abbrev pub question_at : Answering → ℕ → Question
question_at m n = question_of (questions_in m) (listed_at m n).place

-- all questions are listed, in the order of rows that stand for their last actions
pub record AreListed (p : Program) (joins : List ActionId) (m : Answering) : Type 0 where
  pub each : All (IsByRow p joins (questions_in m)) m.rows.items
  pub all : (k : ℕ) → k < length (questions_in m) → (n : ℕ) × (n < length m.rows.items) × ((listed_at m n).place ≡ k)
  pub sorted : IsNonDecreasingBy (λ x. x.row) m.rows.items
  pub flags : length m.flags.items ≡ length (questions_in m)

-- .. and these are the questions
pub record AreListedFor (p : Program) (joins : List ActionId) (these : List Question) (m : Answering) : Type 0 where
  pub questions : questions_in m ≡ these
  pub listed : AreListed p joins m

-- the agents of all of them are asked for, and each that is listed is answered, or left
pub record AreAnsweredBut (p : Program) (s : Schedule) (agents : Vec Bool Global) (Left : ℕ → Question → Type 0) (m : Answering) : Type 0 where
  pub questions : All (IsQuestion p) (questions_in m)
  pub listed : AreListed p (joins_of s) m
  pub asked : AreAskedFor p (questions_in m) agents
  pub told : (n : ℕ) → n < length m.rows.items → Left n (question_at m n) ⊎ IsAnswer p (question_at m n) (get_or m.flags.items (listed_at m n).place false)

-- those are left whose first agents are not below this one
abbrev pub AreAnsweredFrom : Program → SlotRows → ℕ → Answering → Type 0
AreAnsweredFrom p rows from m = AreAnsweredBut p rows.schedule rows.asked (λ n q. from ≤ q.first.agent) m

-- in a block of columns those are left that are of a later block, or are still to come
abbrev pub IsToCome : Columns → ℕ → ℕ → Question → Type 0
IsToCome columns next n q = (columns.first ≤ q.first.agent) × ((columns.end ≤ q.first.agent) ⊎ (next ≤ n))

-- .. and these are of this row or of later ones
pub record IsAnswering (p : Program) (rows : SlotRows) (row : ℕ) (m : Answering) : Type 0 where
  pub block : All (HasItsColumn rows.columns) (questions_in m)
  pub answers : AreAnsweredBut p rows.schedule rows.asked (IsToCome rows.columns m.next) m
  pub due : (n : ℕ) → m.next ≤ n → n < length m.rows.items → row ≤ (listed_at m n).row

-- the row that is made is the one with this number
pub record IsRowAt (p : Program) (m : SlotRows) (number : ℕ) : Type 0 where
  pub own : AreOwn p
  pub columns : AreColumnsOf p m.columns
  pub width : length (made_row m.counts) ≡ m.columns.width
  pub counts : AreRowCounts p m.schedule m.columns number (slice_index (made_row m.counts))
