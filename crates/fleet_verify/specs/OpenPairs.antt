-- Open pairs as questions for chains, and the first pair of each cell without a chain.
use Rattle.std.specs.Prelude.{◌≡◌, ℕ, ◌<◌, Bool, true, false, List, slice_get, get_or, Option, Some, None}
use Rattle.fleet_model.specs.declared.geometry.Cell.{Cell}
use Rattle.fleet_model.specs.declared.program.Visit.{Visit}
use Rattle.fleet_model.specs.Program.{Program}
use Rattle.fleet_model.specs.Chain.{Reaches}
use Rattle.fleet_model.specs.Visit.{IsVisit, entering, leaving}
use Rattle.fleet_needs.specs.declared.questions.Question.{Question}
use Rattle.fleet_verify.specs.Order.{number_of}
use Rattle.fleet_verify.specs.declared.order.OrderViolation.{OrderViolation}
use Rattle.fleet_verify.specs.declared.order.OpenPair.{OpenPair}

-- both are visits of the program
pub record AreVisits (p : Program) (o : OpenPair) : Type 0 where
  pub first : IsVisit p o.first
  pub second : IsVisit p o.second

-- its visits
abbrev pub violation_of : OpenPair → OrderViolation
violation_of o = record { first = o.first; second = o.second }

-- whether a chain begins with the action that leaves the first visit and ends with the one that enters the second
abbrev pub question_of : Program → OpenPair → Question
question_of p o = record { first = leaving p o.first; last = entering o.second }

-- one does
abbrev pub IsChained : Program → OpenPair → Type 0
IsChained p o = Reaches p (leaving p o.first) (entering o.second)

-- these visits are the first bad pair of the cell with this number, among so many pairs
pub record IsFirstBad (Bad : ℕ → OpenPair → Type 0) (pairs : List OpenPair) (many n : ℕ) (first second : Visit) : Type 0 where
  pub at : ℕ
  pub cell : Cell
  pub within : at < many
  pub here : slice_get pairs at ≡ Some (record { cell = cell; first = first; second = second })
  pub number : number_of cell ≡ n
  pub bad : Bad at (record { cell = cell; first = first; second = second })
  pub sooner : (k : ℕ) (o : OpenPair) → k < at → slice_get pairs k ≡ Some o → number_of o.cell ≡ n → Bad k o → ⊥

-- the first bad pair of the cell with this number, among so many pairs, or nothing if none is bad
abbrev pub AnswersFirstBad : (ℕ → OpenPair → Type 0) → List OpenPair → ℕ → ℕ → Option OrderViolation → Type 0
AnswersFirstBad Bad pairs many n None = (k : ℕ) (o : OpenPair) → k < many → slice_get pairs k ≡ Some o → number_of o.cell ≡ n → Bad k o → ⊥
AnswersFirstBad Bad pairs many n (Some b) = IsFirstBad Bad pairs many n b.first b.second

-- the flag with this number is set
abbrev pub IsFlagged : List Bool → ℕ → OpenPair → Type 0
IsFlagged flags k o = get_or flags k false ≡ true
