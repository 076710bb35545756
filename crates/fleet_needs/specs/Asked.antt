-- Questions for chains of needs, and their answers.
use Rattle.std.specs.Prelude.{◌≡◌, ℕ, ◌<◌, ◌≤◌, Bool, true, false, List, length, get_or, slice_get, Some, All, ◌↔◌, Vec, vec_len}
use Rattle.std.specs.declared.alloc.Global.{Global}
use Rattle.fleet_needs.specs.Words.{Program, IsAction, Reaches}
use Rattle.fleet_needs.specs.declared.questions.Question.{Question}

-- the first is of an agent of the program, though it may be beyond the agent's last action, and the last is an action
-- of the program
pub record IsQuestion (p : Program) (q : Question) : Type 0 where
  pub agent : q.first.agent < length p
  pub number : 1 ≤ q.first.number
  pub last : IsAction p q.last

-- a flag for each question, whether no chain begins with its first action and ends with its last
pub record AreAnswers (p : Program) (questions : List Question) (flags : List Bool) : Type 0 where
  pub all : length flags ≡ length questions
  pub each : (k : ℕ) (q : Question) → slice_get questions k ≡ Some q → (get_or flags k false ≡ true) ↔ (Reaches p q.first q.last → ⊥)

-- these flags are so
abbrev pub AreAnswersIn : Program → List Question → Vec Bool Global → Type 0
AreAnswersIn p questions flags = AreAnswers p questions flags.items

-- the agent of the question's first action is flagged
abbrev pub IsAskedFor : List Bool → Question → Type 0
IsAskedFor asked q = get_or asked q.first.agent false ≡ true

-- agent i is that of the first action of one of these questions
abbrev pub IsFirstIn : List Question → ℕ → Type 0
IsFirstIn questions i = (k : ℕ) × (q : Question) × (slice_get questions k ≡ Some q) × (q.first.agent ≡ i)

-- of the flags, one for each agent of the program, those of the agents of the questions' first actions are set, and no
-- others
pub record AreAskedFor (p : Program) (questions : List Question) (agents : Vec Bool Global) : Type 0 where
  pub all : vec_len agents ≡ length p
  pub each : All (IsAskedFor agents.items) questions
  pub only : (i : ℕ) → get_or agents.items i false ≡ true → IsFirstIn questions i
