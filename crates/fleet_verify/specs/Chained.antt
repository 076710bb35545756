-- Open pairs as questions for chains, and what was answered to questions.
use Rattle.std.specs.Prelude.{◌≡◌, ◌≢◌, ℕ, ◌+◌, ◌*◌, ◌<◌, ◌≤◌, Bool, false, List, length, get_or, slice_get, Option, Some, All, IfSome, IfNone}
use Rattle.std.specs.List.{AllPairs}
use Rattle.fleet_model.specs.declared.program.ActionId.{ActionId}
use Rattle.fleet_model.specs.declared.program.Visit.{Visit}
use Rattle.fleet_model.specs.Program.{Program}
use Rattle.fleet_model.specs.Visit.{entering}
use Rattle.fleet_needs.specs.Asked.{IsQuestion, AreAnswers}
use Rattle.fleet_needs.specs.declared.questions.Question.{Question}
use Rattle.fleet_verify.specs.Ahead.{level_in, count_in}
use Rattle.fleet_verify.specs.Listing.{entry_level}
use Rattle.fleet_verify.specs.OpenPairs.{IsChained, question_of}
use Rattle.fleet_verify.specs.declared.chained.Answers.{Answers}
use Rattle.fleet_verify.specs.declared.chained.TheConstants.{NUMBERS}
use Rattle.fleet_verify.specs.declared.order.OpenPair.{OpenPair}

-- the visit begins with an action, which has no level in these rows, or none below this one
abbrev pub BeginsLate : List (List ℕ) → Visit → ℕ → Type 0
BeginsLate rows v level = (1 ≤ v.position) × (v.position ≤ count_in rows v.agent → level ≤ level_in rows (entering v))

-- the second visit of the pair begins later than the first, by the levels in these rows
abbrev pub BeginsLater : List (List ℕ) → OpenPair → Type 0
BeginsLater rows o = entry_level (level_in rows) o.first < entry_level (level_in rows) o.second

-- the question for this pair, which is one of the program
pub record IsAskedOf (p : Program) (o : OpenPair) (q : Question) : Type 0 where
  pub question : IsQuestion p q
  pub of : q ≡ question_of p o

-- the questions for the pairs, which are questions of the program
pub record AreAsked (p : Program) (pairs : List OpenPair) (asked : List Question) : Type 0 where
  pub all : length asked ≡ length pairs
  pub each : (k : ℕ) (o : OpenPair) (q : Question) → k < length pairs → IsAskedOf p (get_or pairs k o) (get_or asked k q)

-- one number for an action
abbrev pub key_of : ActionId → ℕ
key_of a = a.agent * NUMBERS + a.number

-- no two of the questions end with the same action
abbrev pub EndApart : List Question → Type 0
EndApart questions =
    (j k : ℕ) (q r : Question) → slice_get questions j ≡ Some q → slice_get questions k ≡ Some r → q.last ≡ r.last → j ≡ k

-- if no two of the questions end with the same action, each has its place by the number of its last action
abbrev pub ArePlaced : List Question → (ℕ → Option ℕ) → Type 0
ArePlaced questions places =
    EndApart questions → (k : ℕ) (q : Question) → slice_get questions k ≡ Some q → places (key_of q.last) ≡ Some k

-- no two of the pairs have the same second visit
abbrev pub EnterApart : List OpenPair → Type 0
EnterApart pairs = AllPairs (λ (o u : OpenPair). o.second ≢ u.second) pairs

-- its flags answer its questions, no two of which end with the same action
pub record AreKnown (p : Program) (known : Answers) : Type 0 where
  pub answers : AreAnswers p known.questions.items known.flags.items
  pub apart : EndApart known.questions.items

-- nothing is found if each of the pairs has a chain, and else what was answered to these questions for them
pub record IsFoundByAsking (p : Program) (pairs : List OpenPair) (asked : List Question) (found : Option Answers) : Type 0 where
  pub chained : IfNone found (All (IsChained p) pairs)
  pub unchained : IfSome found (λ _. ¬ All (IsChained p) pairs)
  pub answers : IfSome found (λ known. AreAnswers p known.questions.items known.flags.items)
  pub questions : IfSome found (λ known. known.questions.items ≡ asked)

-- nothing is found if each of the pairs has a chain, and else what is known: answers for all of them, if by these
-- levels each may have one
pub record IsFoundOfPairs (p : Program) (rows : List (List ℕ)) (pairs : List OpenPair) (found : Option Answers) : Type 0 where
  pub chained : IfNone found (All (IsChained p) pairs)
  pub unchained : IfSome found (λ _. ¬ All (IsChained p) pairs)
  pub known : IfSome found (AreKnown p)
  pub asked : IfSome found (λ known. All (BeginsLater rows) pairs → AreAsked p pairs known.questions.items)

-- each of the questions is one of those that were asked
abbrev pub AreAmong : List Question → List Question → Type 0
AreAmong asked questions = All (λ q. (k : ℕ) × (slice_get asked k ≡ Some q)) questions

-- the flag is that of the question, which was asked
pub record IsFlagOf (known : Answers) (q : Question) (answer : Bool) : Type 0 where
  pub place : ℕ
  pub asked : slice_get known.questions.items place ≡ Some q
  pub flag : answer ≡ get_or known.flags.items place false
