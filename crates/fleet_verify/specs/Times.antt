-- When the actions of a program end at the soonest, what they cost, and which of them never end if robots break down.
use Rattle.std.specs.Prelude.{◌≡◌, ℕ, ◌+◌, ◌<◌, ◌≤◌, ◌⊎◌, ◌↔◌, IsTrue, Bool, List, [], ◌∷◌, length, get_or, sum_by, ◌==◌, if◌then◌else◌, Option, Some, Contains, count_by, nat_lt}
use Rattle.fleet_model.specs.declared.program.ActionId.{ActionId}
use Rattle.fleet_model.specs.Program.{Program, moves, awaits_of, AreInRange}
use Rattle.fleet_model.specs.Chain.{IsAction, DirectlyNeeds, ChainFrom, IsCriticalCost, EndsChainOfCost, IsNumbering}
use Rattle.fleet_model.specs.Machine.{indices}
use Rattle.fleet_model.specs.Schedule.{Schedule, IsSchedule, HasBegunBy, HasEndedBy, EndInTime, NeedsNoStalled}
use Rattle.fleet_needs.specs.Critical.{AreCriticalCosts}
use Rattle.fleet_verify.specs.Stretch.{stretch_actions, stretch_between}
use Rattle.fleet_verify.specs.declared.times.TheConstants.{LONGEST}
use Rattle.fleet_verify.specs.LevelRows.{AreCostRows}
use Rattle.fleet_verify.specs.declared.times.Ends.{Ends}
use Rattle.fleet_verify.specs.declared.times.Ends.TheVariants.{Costs, Levels}

-- a program, and what its actions cost
pub record TimesParts (P C : Type 0) : Type 0 where
  pub program : P
  pub costs : C

-- the entries are the costs of the critical paths of the program's actions
abbrev pub AreEnds : Program → (ActionId → ℕ) → Ends → Type 0
AreEnds p cost (Costs m) = AreCriticalCosts p cost m
AreEnds p cost (Levels rows) = AreCostRows p cost rows.now × ((a : ActionId) → cost a ≡ 1)

-- the program has no ring of needs, and its actions end then
pub record AreTimes (p : Program) (cost : ActionId → ℕ) (ends : Ends) : Type 0 where
  pub in_range : AreInRange p
  pub numbering : (number : ActionId → ℕ) × IsNumbering p number
  pub critical : AreEnds p cost ends

-- the last action of agent i
abbrev pub last_action : Program → ℕ → ActionId
last_action p i = record { agent = i; number = moves p i }

-- agent i arrives at m at the soonest: when its last action ends, or at once if it has none
pub record ArrivesAt (p : Program) (cost : ActionId → ℕ) (i m : ℕ) : Type 0 where
  pub stays : moves p i ≡ 0 → m ≡ 0
  pub moves_last : 1 ≤ moves p i → IsCriticalCost p cost (last_action p i) m

-- each of the first n agents has an entry, which fits it
pub record EachFits (Fits : ℕ → ℕ → Type 0) (n : ℕ) (entries : List ℕ) : Type 0 where
  pub all : length entries ≡ n
  pub each : (i : ℕ) → i < n → Fits i (get_or entries i 0)

-- each agent arrives at its time at the soonest
abbrev pub EachArrivesAt : Program → (ActionId → ℕ) → List ℕ → Type 0
EachArrivesAt p cost arrivals = EachFits (ArrivesAt p cost) (length p) arrivals

-- all have arrived at m at the soonest: when the dearest chain ends, or at once if there are no actions
pub record HaveArrivedAt (p : Program) (cost : ActionId → ℕ) (m : ℕ) : Type 0 where
  pub some : (m ≡ 0) ⊎ ((b : ActionId) × EndsChainOfCost p cost m b)
  pub most : (b : ActionId) (n : ℕ) → EndsChainOfCost p cost n b → n ≤ m

-- the action ends last of all
pub record IsLatest (p : Program) (cost : ActionId → ℕ) (a : ActionId) : Type 0 where
  pub action : IsAction p a
  pub end : ℕ
  pub critical : IsCriticalCost p cost a end
  pub arrival : HaveArrivedAt p cost end

-- the later one of two actions, or the only one
pub record IsLater (p : Program) (cost : ActionId → ℕ) (first : Option ActionId) (second a : ActionId) : Type 0 where
  pub action : IsAction p a
  pub one : (first ≡ Some a) ⊎ (a ≡ second)
  pub after_second : (m n : ℕ) → IsCriticalCost p cost second m → IsCriticalCost p cost a n → m ≤ n
  pub after_first : (b : ActionId) (m n : ℕ) → first ≡ Some b → IsCriticalCost p cost b m → IsCriticalCost p cost a n → m ≤ n

-- the action awaits a, which ends at this time
pub record IsAwaitedUntil (p : Program) (cost : ActionId → ℕ) (b : ActionId) (t : ℕ) (a : ActionId) : Type 0 where
  pub awaits : Contains (awaits_of p b.agent b.number) (record { agent = a.agent; count = a.number })
  pub critical : IsCriticalCost p cost a t

-- a is the action of the same agent right before b, and ends at this time
pub record IsOwnUntil (p : Program) (cost : ActionId → ℕ) (b : ActionId) (t : ℕ) (a : ActionId) : Type 0 where
  pub agent : b.agent ≡ a.agent
  pub before : b.number ≡ a.number + 1
  pub some : 1 ≤ a.number
  pub critical : IsCriticalCost p cost a t

-- the action ends then, and begins when a ends, the action of the same agent right before it
abbrev pub FollowsOwn : Program → (ActionId → ℕ) → ActionId → ℕ → ActionId → Type 0
FollowsOwn p cost b end a = (t : ℕ) × (t + cost b ≡ end) × IsOwnUntil p cost b t a

-- the action directly needs a, which ends at this time
pub record IsNeedUntil (p : Program) (cost : ActionId → ℕ) (b : ActionId) (t : ℕ) (a : ActionId) : Type 0 where
  pub needs : DirectlyNeeds p b a
  pub critical : IsCriticalCost p cost a t

-- a is right before b on a dearest chain that ends with b
pub record LeadsBack (p : Program) (cost : ActionId → ℕ) (b a : ActionId) : Type 0 where
  pub action : IsAction p a
  pub needs : DirectlyNeeds p b a
  pub end : ℕ
  pub critical : IsCriticalCost p cost a end
  pub all : IsCriticalCost p cost b (end + cost b)

-- a is so as the action of the same agent before b, and ends at this time
pub record IsOwnBefore (p : Program) (cost : ActionId → ℕ) (b a : ActionId) (t : ℕ) : Type 0 where
  pub agent : a.agent ≡ b.agent
  pub number : a.number + 1 ≡ b.number
  pub before : LeadsBack p cost b a
  pub end : IsCriticalCost p cost a t

-- the path is a chain from its first action, which ends then, to this last one, which ends at the total
pub record IsWayTo (p : Program) (cost : ActionId → ℕ) (last : ActionId) (total : ℕ) (path : List ActionId) (first : ActionId) (end : ℕ) : Type 0 where
  pub rest : List ActionId
  pub path_is : path ≡ first ∷ rest
  pub chain : ChainFrom p first rest last
  pub critical : IsCriticalCost p cost first end
  pub sum : total ≡ end + sum_by cost rest

-- the action of this number, of the agent of another one
abbrev pub of_agent : ActionId → ℕ → ActionId
of_agent a n = record { agent = a.agent; number = n }

-- the actions of the last one's agent from the first on, which ends then, are such a path, and fit one stretch
pub record IsStretchTo (p : Program) (cost : ActionId → ℕ) (last : ActionId) (total first end : ℕ) : Type 0 where
  pub within : first ≤ last.number
  pub few : last.number < first + LONGEST
  pub way : IsWayTo p cost last total (stretch_actions (stretch_between (of_agent last first) last)) (of_agent last first) end

-- the stretch has no room for one action more, or its first action does not follow the one before
abbrev pub IsWholeTo : Program → (ActionId → ℕ) → ActionId → (first end : ℕ) → Type 0
IsWholeTo p cost last first end = last.number + 1 < first + LONGEST → (a : ActionId) → FollowsOwn p cost (of_agent last first) end a → ⊥

-- a chain of this cost, or no action if the cost is nothing
abbrev pub IsPathOfCost : Program → (ActionId → ℕ) → ℕ → List ActionId → Type 0
IsPathOfCost p cost m [] = m ≡ 0
IsPathOfCost p cost m (a ∷ cs) = (b : ActionId) × ChainFrom p a cs b × (m ≡ sum_by cost (a ∷ cs))

-- a dearest chain: nothing arrives sooner, since these actions have to end one after another
pub record IsCriticalPath (p : Program) (cost : ActionId → ℕ) (path : List ActionId) : Type 0 where
  pub total : ℕ
  pub arrival : HaveArrivedAt p cost total
  pub path_of_cost : IsPathOfCost p cost total path

-- ---- robots that break down

-- for each agent the number of the action that it never ends, or 0: the action is that one
abbrev pub is_broken : List ℕ → ActionId → Bool
is_broken breaks a = a.number == get_or breaks a.agent 0

-- so many first actions of each agent need no broken one, and the others do
pub record AreReached (p : Program) (breaks counts : List ℕ) : Type 0 where
  pub all : length counts ≡ length p
  pub within : (i : ℕ) → get_or counts i 0 ≤ moves p i
  pub each : (b : ActionId) → IsAction p b → (b.number ≤ get_or counts b.agent 0) ↔ NeedsNoStalled p (is_broken breaks) b

-- how many agents do not finish all of their actions, by these counts
abbrev pub stopped_agents : Program → List ℕ → ℕ
stopped_agents p counts = count_by (λ i. nat_lt (get_or counts i 0) (moves p i)) (indices (length p))

-- what the counts say of every schedule: an action up to its agent's count ends by the cost of its critical path, if
-- all that are not broken end in time; and if the broken ones never end, no action above its agent's count does, and
-- none but the broken ones even begins
pub record StopsOthers (p : Program) (breaks counts : List ℕ) : Type 0 where
  pub in_time : (s : Schedule) → IsSchedule p s → (cost : ActionId → ℕ) → EndInTime p s (is_broken breaks) cost
      → (b : ActionId) (m : ℕ) → IsAction p b → b.number ≤ get_or counts b.agent 0 → IsCriticalCost p cost b m → HasEndedBy s m b
  pub never_ends : (s : Schedule) → IsSchedule p s → ((a : ActionId) → IsAction p a → IsTrue (is_broken breaks a) → (t : ℕ) → HasEndedBy s t a → ⊥)
      → (b : ActionId) → IsAction p b → get_or counts b.agent 0 < b.number → (t : ℕ) → HasEndedBy s t b → ⊥
  pub never_begins : (s : Schedule) → IsSchedule p s → ((a : ActionId) → IsAction p a → IsTrue (is_broken breaks a) → (t : ℕ) → HasEndedBy s t a → ⊥)
      → (b : ActionId) → IsAction p b → get_or counts b.agent 0 < b.number → (IsTrue (is_broken breaks b) → ⊥) → (t : ℕ) → HasBegunBy s t b → ⊥

-- ---- how it is found: what is broken costs one, and nothing else anything

-- whether the action is broken, as a number
abbrev pub broken_cost : List ℕ → ActionId → ℕ
broken_cost breaks a = if is_broken breaks a then 1 else 0

-- the first n actions of agent i have critical paths without cost, and the next one, if there is one, has not
pub record IsFreeTo (p : Program) (cost : ActionId → ℕ) (i n : ℕ) : Type 0 where
  pub within : n ≤ moves p i
  pub free : (m : ℕ) → 1 ≤ m → m ≤ n → IsCriticalCost p cost (record { agent = i; number = m }) 0
  pub next : n < moves p i → (k : ℕ) × (1 ≤ k) × IsCriticalCost p cost (record { agent = i; number = n + 1 }) k

-- it is so of each agent
abbrev pub EachFreeTo : Program → (ActionId → ℕ) → List ℕ → Type 0
EachFreeTo p cost counts = EachFits (IsFreeTo p cost) (length p) counts
