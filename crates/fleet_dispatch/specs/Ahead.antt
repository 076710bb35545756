-- Orders that are given ahead: how many of its next actions an agent is told.
use Rattle.std.specs.Prelude.{◌≡◌, ℕ, ◌+◌, ◌<◌, ◌≤◌, Bool, not, List, length, map, take, drop, nat_le, All, slice_get, Some}
use Rattle.std.specs.List.{list_all, position_or_len}
use Rattle.fleet_model.specs.declared.program.Await.{Await}
use Rattle.fleet_model.specs.declared.program.Action.{Action}
use Rattle.fleet_model.specs.Program.{Program, actions_of, moves}
use Rattle.fleet_model.specs.Machine.{indices}
use Rattle.fleet_dispatch.specs.declared.report.Reported.{Reported}
use Rattle.fleet_dispatch.specs.Report.{Words, Counts, count_of, said_of}

-- the action that is awaited is carried out
abbrev pub is_done : Counts → Await → Bool
is_done counts w = nat_le w.count (count_of counts w.agent)

-- all that the action awaits is carried out
abbrev pub is_open : Counts → Action → Bool
is_open counts a = list_all (is_done counts) a.awaits

-- the next actions of agent i, at most k
abbrev pub next_actions : Program → ℕ → Counts → ℕ → List Action
next_actions p k counts i = take k (drop (count_of counts i) (actions_of p i))

-- How many of its actions agent i is told: those that it has carried out, and of its next k all before the first that
-- awaits an action that is not carried out
unfoldable pub told_to : Program → ℕ → Counts → ℕ → ℕ
told_to p k counts i =
    count_of counts i + position_or_len (λ a. not (is_open counts a)) (next_actions p k counts i)

-- .. of all agents
abbrev pub told_at : Program → ℕ → Counts → Counts
told_at p k counts = map (told_to p k counts) (indices (length p))

-- the word names an agent of the program, and only actions that the agent is told
pub record IsOrdered (p : Program) (k : ℕ) (counts : Counts) (w : Reported) : Type 0 where
  pub agent : w.agent < length p
  pub told : said_of counts w ≤ told_to p k counts w.agent

-- each word does
abbrev pub AreOrdered : Program → ℕ → Counts → Words → Type 0
AreOrdered p k counts words = All (IsOrdered p k counts) words

-- the first word that does not, which names this agent
pub record IsFirstUnordered (p : Program) (k : ℕ) (counts : Counts) (words : Words) (agent : ℕ) : Type 0 where
  pub place : ℕ
  pub word : Reported
  pub at : slice_get words place ≡ Some word
  pub before : AreOrdered p k counts (take place words)
  pub unordered : IsOrdered p k counts word → ⊥
  pub named : word.agent ≡ agent

-- no action is left to any agent
abbrev pub is_all_done : Program → Counts → Bool
is_all_done p counts = list_all (λ i. nat_le (moves p i) (count_of counts i)) (indices (length p))
