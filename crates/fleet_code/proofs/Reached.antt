-- Fronts of a spelling: what is known of the agents that were read, and how many bytes are left.
use Rattle.fleet_code.proofs.Words.{◌≡◌, ℕ, zero, suc, ◌+◌, ◌≤◌, List, [], ◌∷◌, ◌++◌, length, Some, refl, sym, ap, subst, ◌∙◌, append_assoc, arith, add-zero, slice_get, flat_map, length-append, append-nil, sum_by-cons, sum_by-append, All-nil, All-cons, All-append, flat_map-cons, flat_map-append, same_Some, Await, AgentProgram, Program, IsAgent, total_moves, AgentsFrom, total_within, Version, magic, two_bytes, cell, agent, IsSpellableAgent, ReachesAgent, ReachesAction, ReachesOpcode, MAX_MOVES_IN_ALL}
use Rattle.fleet_code.specs.Spelling.{count as count_of, await, action}

-- ---- the agents before

abbrev pub EachIs : ℕ → ℕ → Program → Type 0
EachIs n i p = (j : ℕ) (a : AgentProgram) → slice_get p j ≡ Some a → IsAgent n (i + j) a

pub each_from : (n i total : ℕ) (p : Program) → AgentsFrom n i total p → EachIs n i p
each_from n i total [] h j b e = absurd cc
each_from n i total (a ∷ p) h zero b e = rw add-zero (subst (IsAgent n i) (same_Some a b e) h.0)
each_from n i total (a ∷ p) h (suc j) b e =
    let same : i + suc j ≡ i + 1 + j = omega arith in
    rw same (each_from n (i + 1) (total + length a.actions) p h.2 j b e)

pub from_each : (n i total : ℕ) (p : Program) → EachIs n i p → total + total_moves p ≤ MAX_MOVES_IN_ALL → AgentsFrom n i total p
from_each n i total [] h le = tt
from_each n i total (a ∷ p) h le =
    let sum : total_moves (a ∷ p) ≡ length a.actions + total_moves p = sum_by-cons (λ (b : AgentProgram). length b.actions) a p in (
      rw add-zero at (h 0 a refl),
      omega (arith, sum, le),
      from_each n (i + 1) (total + length a.actions) p (λ j b e. let same : i + suc j ≡ i + 1 + j = omega arith in rw same at (h (suc j) b e)) (omega (arith, sum, le)),
    )

pub total_from : (n : ℕ) (p : Program) → AgentsFrom n 0 0 p → total_moves p ≤ MAX_MOVES_IN_ALL
total_from n p h = let all = total_within n 0 0 p h (omega arith) in omega (arith, all)

each_more : (n i : ℕ) (p : Program) (a : AgentProgram) → EachIs n i p → IsAgent n (i + length p) a → EachIs n i (p ++ a ∷ [])
each_more n i [] a h last zero b e = subst (IsAgent n (i + 0)) (same_Some a b e) last
each_more n i [] a h last (suc j) b e = absurd cc
each_more n i (c ∷ p) a h last zero b e = h zero b e
each_more n i (c ∷ p) a h last (suc j) b e =
    let same : i + suc j ≡ i + 1 + j = omega arith in
    let end : i + suc (length p) ≡ i + 1 + length p = omega arith in
    rw same (each_more n (i + 1) p a (λ k d f. let at : i + suc k ≡ i + 1 + k = omega arith in rw at at (h (suc k) d f)) (rw end at last) j b e)

-- the same of all agents, from agent 0 on
abbrev pub AreAllAgents : ℕ → Program → Type 0
AreAllAgents n p = (i : ℕ) (a : AgentProgram) → slice_get p i ≡ Some a → IsAgent n i a

pub from_first : (n : ℕ) (p : Program) → AreAllAgents n p → EachIs n 0 p
from_first n p h j a e = let same : 0 + j ≡ j = omega arith in rw same (h j a e)

pub to_first : (n : ℕ) (p : Program) → EachIs n 0 p → AreAllAgents n p
to_first n p h j a e = let same : 0 + j ≡ j = omega arith in rw same at (h j a e)

pub total_more : (p : Program) (a : AgentProgram) → total_moves (p ++ a ∷ []) ≡ total_moves p + length a.actions
total_more p a =
    let both = sum_by-append (λ (b : AgentProgram). length b.actions) p (a ∷ []) in
    let one = sum_by-cons (λ (b : AgentProgram). length b.actions) a [] in
    omega (arith, both, one)

flat_more : {X : Type 0} (f : X → List ℕ) (xs : List X) (x : X) (rest : List ℕ) → flat_map f xs ++ (f x ++ rest) ≡ flat_map f (xs ++ x ∷ []) ++ rest
flat_more f xs x rest =
    let one : flat_map f (x ∷ []) ≡ f x = flat_map-cons f x [] ∙ append-nil (f x) in
    sym (append_assoc (flat_map f xs) (f x) rest) ∙ ap (λ (t : List ℕ). flat_map f xs ++ t ++ rest) (sym one) ∙ ap (λ (t : List ℕ). t ++ rest) (sym (flat_map-append f xs (x ∷ [])))

-- one part more of a list of parts
pub parts_more : {X : Type 0} (f : X → List ℕ) (xs : List X) (x : X) (bytes rest after : List ℕ) → bytes ≡ flat_map f xs ++ rest → rest ≡ f x ++ after → bytes ≡ flat_map f (xs ++ x ∷ []) ++ after
parts_more f xs x bytes rest after e here = e ∙ ap (λ (t : List ℕ). flat_map f xs ++ t) here ∙ flat_more f xs x after

-- with any front
pub front_more : {X : Type 0} (f : X → List ℕ) (front : List ℕ) (xs : List X) (x : X) (bytes rest after : List ℕ) → bytes ≡ front ++ flat_map f xs ++ rest → rest ≡ f x ++ after
    → bytes ≡ front ++ flat_map f (xs ++ x ∷ []) ++ after
front_more f front xs x bytes rest after e here =
    e ∙ append_assoc front (flat_map f xs) rest ∙ ap (λ (t : List ℕ). front ++ t) (parts_more f xs x (flat_map f xs ++ rest) rest after refl here) ∙ sym (append_assoc front (flat_map f (xs ++ x ∷ [])) after)

pub agent_reached : (v : Version) (bytes : List ℕ) (n : ℕ) (p : Program) (a : AgentProgram) (rest after : List ℕ) → ReachesAgent v bytes n p rest → IsAgent n (length p) a → IsSpellableAgent v a
    → total_moves p + length a.actions ≤ MAX_MOVES_IN_ALL → rest ≡ agent v a ++ after → ReachesAgent v bytes n (p ++ a ∷ []) after
agent_reached v bytes n p a rest after r own spellable le parts = record {
  some = r.some;
  few = r.few;
  agents = let same : 0 + length p ≡ length p = omega arith in to_first n (p ++ a ∷ []) (each_more n 0 p a (from_first n p r.agents) (rw same own));
  spellable = All-append (IsSpellableAgent v) p (a ∷ []) r.spellable (All-cons (IsSpellableAgent v) a [] spellable (All-nil (IsSpellableAgent v)));
  total = omega (arith, total_more p a, le);
  parts = front_more (agent v) ((magic v) ++ two_bytes n) p a bytes rest after r.parts parts;
}

-- ---- how many bytes are left

shorter : (bytes front rest : List ℕ) → bytes ≡ front ++ rest → length rest ≤ length bytes
shorter bytes front rest e = let same = ap length e in omega (arith, same, length-append front rest)

pub agent_left : (v : Version) (bytes : List ℕ) (n : ℕ) (p : Program) (rest : List ℕ) → ReachesAgent v bytes n p rest → length rest ≤ length bytes
agent_left v bytes n p rest r = shorter bytes ((magic v) ++ two_bytes n ++ flat_map (agent v) p) rest r.parts

action_left : (v : Version) (bytes : List ℕ) (n i : ℕ) (rest : List ℕ) → ReachesAction v bytes n i rest → length rest ≤ length bytes
action_left v bytes n i rest r =
    let agents = agent_left v bytes n r.before r.at_agent r.agents in
    let head = shorter r.at_agent (cell r.head.start ++ cell r.head.goal ++ count_of v r.count) r.at_actions r.head.parts in
    let actions = shorter r.at_actions (flat_map (action v) r.actions) rest r.parts in
    omega (arith, agents, head, actions)

pub opcode_left : (v : Version) (bytes : List ℕ) (n i : ℕ) (ws : List Await) (rest : List ℕ) → ReachesOpcode v bytes n i ws rest → length rest ≤ length bytes
opcode_left v bytes n i ws rest r =
    let actions = action_left v bytes n i r.at_action r.actions in
    let awaits = shorter r.at_action (flat_map (await v) ws) rest r.parts in
    omega (arith, actions, awaits)
