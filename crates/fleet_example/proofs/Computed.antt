-- Facts on one program that are found by computation.
use Rattle.std.proofs.Common.{◌≡◌, ◌≢◌, ℕ, ◌+◌, ◌*◌, ◌<◌, ◌≤◌, Bool, true, false, not, nat_lt, nat_le, ◌&&◌, ◌||◌, ◌==◌, List, [], ◌∷◌, length, map, get_or, Option, Some, None, slice_get, option_map, Contains, refl, ap, sym, ◌∙◌, subst, arith, inl, inr}
use Rattle.std.specs.List.{list_all, list_any}
use Rattle.std.specs.Option.{option_map_or}
use Rattle.std.proofs.lemmas.Bool.{and_parts, or_cases, cases_lt, eqb-true, eqb-false, ltb-true, leb-true, not-true, both_ways}
use Rattle.std.proofs.lemmas.List.FromFn.{length-range_with_len, get_or-range_with_len}
use Rattle.std.proofs.lemmas.List.{length-map}
use Rattle.std.proofs.lemmas.List.Sums.{AllPass-from_list_all}
use Rattle.std.proofs.lemmas.List.Elements.{All-contains}
use Rattle.std.proofs.lemmas.Map.Views.{Contains-from_any}
use Rattle.std.proofs.lemmas.Option.{slice_get-map, same_Some}
use Rattle.fleet_model.proofs.Cells.{is_same_place-true, is_same_place-eq}
use Rattle.fleet_model.specs.declared.geometry.Place.{Place}
use Rattle.fleet_model.specs.declared.program.Await.{Await}
use Rattle.fleet_model.specs.declared.program.ActionId.{ActionId}
use Rattle.fleet_model.specs.declared.program.AgentProgram.{AgentProgram}
use Rattle.fleet_model.specs.declared.task.Task.{Task}
use Rattle.fleet_model.specs.Geometry.{place_of, is_same_place}
use Rattle.fleet_model.specs.Program.{Program, origin, start_of, goal_of, moves, awaits_of, path, IsInRange}
use Rattle.fleet_model.specs.Machine.{indices, IsLeast}
use Rattle.fleet_model.specs.Chain.{IsAction, DirectlyNeeds, ChainFrom, IsNumbering, IsLevel, IsLongestChain}
use Rattle.fleet_model.specs.Accepted.{IsRight}
use Rattle.fleet_model.proofs.Chains.{ends_by, ends_within, ends_action, level_is}
use Rattle.fleet_verify.proofs.SameChains.{awaiting_action}

-- ---- tests of numbers below a bound

at_index : (test : ℕ → Bool) (n : ℕ) → list_all test (indices n) ≡ true → (i : ℕ) → i < n → test i ≡ true
at_index test n e i lt =
    let at : get_or (indices n) i 0 ≡ 0 + i = get_or-range_with_len 0 n i 0 lt in
    let same : get_or (indices n) i 0 ≡ i = omega (arith, at) in
    subst (λ k. test k ≡ true) same (AllPass-from_list_all test (indices n) e i 0 (omega (arith, length-range_with_len 0 n)))

-- the first number that passes a test
pub least_is : (test : ℕ → Bool) (t : ℕ) → test t ≡ true → list_all (λ s. not (test s)) (indices t) ≡ true → IsLeast test t
least_is test t e before = record { holds = e; least = least }
  where
    least : (s : ℕ) → test s ≡ true → t ≤ s
    least s h = elim (cases_lt s t) [
      | inl lt ↦ absurd (both_ways (test s) (not-true (test s) (at_index (λ s. not (test s)) t before s lt)) h)
      | inr le ↦ le
    ]

-- ---- tests of each position, and of each await

abbrev pub at_all_positions : (ℕ → ℕ → Bool) → Program → Bool
at_all_positions test p = list_all (λ i. list_all (test i) (indices (moves p i + 1))) (indices (length p))

pub at_position : (test : ℕ → ℕ → Bool) (p : Program) → at_all_positions test p ≡ true → (i n : ℕ) → i < length p → n ≤ moves p i → test i n ≡ true
at_position test p e i n lt le =
    at_index (test i) (moves p i + 1) (at_index (λ i. list_all (test i) (indices (moves p i + 1))) (length p) e i lt) n (omega arith)

abbrev pub at_all_awaits : (ℕ → ℕ → Await → Bool) → Program → Bool
at_all_awaits test p = at_all_positions (λ i n. list_all (test i n) (awaits_of p i n)) p

pub at_await : (test : ℕ → ℕ → Await → Bool) (p : Program) → at_all_awaits test p ≡ true → (i n : ℕ) (w : Await) → Contains (awaits_of p i n) w → test i n w ≡ true
at_await test p e i n w h =
    let a = awaiting_action p i n w h in
    All-contains (λ (v : Await). test i n v ≡ true) (awaits_of p i n) w
    (AllPass-from_list_all (test i n) (awaits_of p i n) (at_position (λ i n. list_all (test i n) (awaits_of p i n)) p e i n a.agent a.last)) h

-- ---- actions

abbrev is_action : Program → ActionId → Bool
is_action p a = nat_lt a.agent (length p) && nat_le 1 a.number && nat_le a.number (moves p a.agent)

pub action_is : (p : Program) (a : ActionId) → is_action p a ≡ true → IsAction p a
action_is p a e =
    let front = and_parts (nat_lt a.agent (length p) && nat_le 1 a.number) (nat_le a.number (moves p a.agent)) e in
    let parts = and_parts (nat_lt a.agent (length p)) (nat_le 1 a.number) front.0 in
    record { agent = ltb-true _ _ parts.0; first = leb-true _ _ parts.1; last = leb-true _ _ front.1 }

-- an action's number, to which each agent before its own adds k
abbrev pub weighed : ℕ → ActionId → ℕ
weighed k a = k * a.agent + a.number

-- each await is of an action that weighs less than the one that awaits
abbrev pub is_numbered : ℕ → Program → Bool
is_numbered k p = at_all_awaits (λ i n w. nat_lt (k * w.agent + w.count) (k * i + n)) p

-- so those weights are a numbering
pub numbered_is : (k : ℕ) (p : Program) → is_numbered k p ≡ true → IsNumbering p (weighed k)
numbered_is k p e = record { positive = λ a act. omega (arith, act.first); rising = λ a b act act' need. rises a b need }
  where
    rises : (a b : ActionId) → DirectlyNeeds p a b → k * b.agent + b.number < k * a.agent + a.number
    rises a b (inl h) = let same : k * a.agent ≡ k * b.agent = ap (λ i. k * i) h.0 in omega (arith, same, h.1)
    rises a b (inr h) = ltb-true _ _ (at_await (λ i n w. nat_lt (k * w.agent + w.count) (k * i + n)) p e a.agent a.number (record { agent = b.agent; count = b.number }) h)

-- ---- chains

abbrev pub is_same_await : Await → Await → Bool
is_same_await v w = v.agent == w.agent && v.count == w.count

pub same_await : (v w : Await) → is_same_await v w ≡ true → v ≡ w
same_await v w e =
    let parts = and_parts (v.agent == w.agent) (v.count == w.count) e in
    let agents : v.agent ≡ w.agent = eqb-true _ _ parts.0 in
    let counts : v.count ≡ w.count = eqb-true _ _ parts.1 in
    λ i. record { agent = agents i; count = counts i }

abbrev needs : Program → ActionId → ActionId → Bool
needs p a b =
    (a.agent == b.agent && (a.number == b.number + 1 && nat_le 1 b.number))
    || list_any (is_same_await (record { agent = b.agent; count = b.number })) (awaits_of p a.agent a.number)

needs_is : (p : Program) (a b : ActionId) → needs p a b ≡ true → DirectlyNeeds p a b
needs_is p a b e =
    elim (or_cases (a.agent == b.agent && (a.number == b.number + 1 && nat_le 1 b.number)) (list_any (is_same_await (record { agent = b.agent; count = b.number })) (awaits_of p a.agent a.number)) e) [
      | inl own ↦ (
          let parts = and_parts (a.agent == b.agent) (a.number == b.number + 1 && nat_le 1 b.number) own in
          let numbers = and_parts (a.number == b.number + 1) (nat_le 1 b.number) parts.1 in
          inl (eqb-true _ _ parts.0, eqb-true _ _ numbers.0, leb-true _ _ numbers.1))
      | inr listed ↦ inr (Contains-from_any same_await (record { agent = b.agent; count = b.number }) (awaits_of p a.agent a.number) listed)
    ]

-- a list of actions, in which each directly needs the one before
abbrev pub is_chain : Program → ActionId → List ActionId → ActionId → Bool
is_chain p a [] b = is_action p a && (a.agent == b.agent && a.number == b.number)
is_chain p a (c ∷ cs) b = is_action p a && (needs p c a && is_chain p c cs b)

pub chain_is : (p : Program) (a : ActionId) (cs : List ActionId) (b : ActionId) → is_chain p a cs b ≡ true → ChainFrom p a cs b
chain_is p a [] b e =
    let parts = and_parts (is_action p a) (a.agent == b.agent && a.number == b.number) e in
    let same = and_parts (a.agent == b.agent) (a.number == b.number) parts.1 in
    let agents : a.agent ≡ b.agent = eqb-true _ _ same.0 in
    let numbers : a.number ≡ b.number = eqb-true _ _ same.1 in
    (action_is p a parts.0, λ i. record { agent = agents i; number = numbers i })
chain_is p a (c ∷ cs) b e =
    let parts = and_parts (is_action p a) (needs p c a && is_chain p c cs b) e in
    let rest = and_parts (needs p c a) (is_chain p c cs b) parts.1 in
    (action_is p a parts.0, needs_is p c a rest.0, chain_is p c cs b rest.1)

-- what an action weighs at the end of a chain of so many actions is its level
pub level_by : (k : ℕ) (p : Program) (a : ActionId) (cs : List ActionId) (b : ActionId) → (is_numbered k p && (is_chain p a cs b && length cs + 1 == weighed k b)) ≡ true
    → IsLevel p b (weighed k b)
level_by k p a cs b e =
    let parts = and_parts (is_numbered k p) (is_chain p a cs b && length cs + 1 == weighed k b) e in
    let chain = and_parts (is_chain p a cs b) (length cs + 1 == weighed k b) parts.1 in
    level_is p (weighed k) (numbered_is k p parts.0) b (ends_by p (weighed k b) a cs b (chain_is p a cs b chain.0) (sym (eqb-true _ _ chain.1)))

-- and the greatest weight at the end of such a chain is the length of the longest chain
pub longest_by : (k : ℕ) (p : Program) (a : ActionId) (cs : List ActionId) (b : ActionId)
    → (is_numbered k p && (is_chain p a cs b && at_all_positions (λ i n. nat_le (k * i + n) (length cs + 1)) p)) ≡ true → IsLongestChain p (length cs + 1)
longest_by k p a cs b e = record {
  some = inr (b, ends_by p (length cs + 1) a cs b (chain_is p a cs b rest.0) refl);
  most = λ d m h.
      let act = ends_action p m d h in
      let within : weighed k d ≤ length cs + 1 = leb-true _ _ (at_position (λ i n. nat_le (k * i + n) (length cs + 1)) p rest.1 d.agent d.number act.agent act.last) in
      omega (arith, ends_within p (weighed k) (numbered_is k p parts.0) m d h, within);
}
  where
    parts : (is_numbered k p ≡ true) × ((is_chain p a cs b && at_all_positions (λ i n. nat_le (k * i + n) (length cs + 1)) p) ≡ true)
    parts = and_parts _ _ e

    rest : (is_chain p a cs b ≡ true) × (at_all_positions (λ i n. nat_le (k * i + n) (length cs + 1)) p ≡ true)
    rest = and_parts _ _ parts.1

-- ---- places

pub other_place : (q r : Place) → is_same_place q r ≡ false → q ≢ r
other_place q r e same = both_ways (is_same_place q r) e (is_same_place-eq q r same)

-- ---- right programs

abbrev pub task_of : AgentProgram → Task
task_of a = record { start = a.start; goal = a.goal }

abbrev is_in_range : Program → ℕ → ℕ → Await → Bool
is_in_range p i n w = (nat_lt w.agent (length p) && not (w.agent == i)) && (nat_le 1 w.count && nat_le w.count (moves p w.agent))

abbrev arrives : Program → ℕ → Bool
arrives p i = is_same_place (path p i (moves p i)) (place_of (goal_of p i))

-- every place is passable, every agent arrives and every await is in range
abbrev pub is_right : (Place → Bool) → Program → Bool
is_right passable p = at_all_positions (λ i n. passable (path p i n)) p && (list_all (arrives p) (indices (length p)) && at_all_awaits (is_in_range p) p)

pub right_is : (passable : Place → Bool) (p : Program) → is_right passable p ≡ true → IsRight passable (map task_of p) p
right_is passable p e = record {
  for_tasks = record {
    agents = sym (length-map p task_of);
    ends = λ i t at. ends i t (slice_get p i) refl (sym (slice_get-map task_of p i) ∙ at);
  };
  on_ground = at_position (λ i n. passable (path p i n)) p parts.0;
  arrives = λ i lt. is_same_place-true (path p i (moves p i)) (place_of (goal_of p i)) (at_index (arrives p) (length p) rest.0 i lt);
  in_range = λ i n w h. range i w (at_await (is_in_range p) p rest.1 i n w h);
}
  where
    parts : (at_all_positions (λ i n. passable (path p i n)) p ≡ true) × ((list_all (arrives p) (indices (length p)) && at_all_awaits (is_in_range p) p) ≡ true)
    parts = and_parts (at_all_positions (λ i n. passable (path p i n)) p) (list_all (arrives p) (indices (length p)) && at_all_awaits (is_in_range p) p) e

    rest : (list_all (arrives p) (indices (length p)) ≡ true) × (at_all_awaits (is_in_range p) p ≡ true)
    rest = and_parts (list_all (arrives p) (indices (length p))) (at_all_awaits (is_in_range p) p) parts.1

    ends : (i : ℕ) (t : Task) (o : Option AgentProgram) → slice_get p i ≡ o → option_map task_of o ≡ Some t → (start_of p i ≡ t.start) × (goal_of p i ≡ t.goal)
    ends i t None is e = absurd cc
    ends i t (Some a) is e =
        let same : task_of a ≡ t = same_Some (task_of a) t e in (
          ap (λ (o : Option AgentProgram). option_map_or (λ (a : AgentProgram). a.start) o origin) is ∙ ap (λ (t : Task). t.start) same,
          ap (λ (o : Option AgentProgram). option_map_or (λ (a : AgentProgram). a.goal) o origin) is ∙ ap (λ (t : Task). t.goal) same,
        )

    range : (i : ℕ) (w : Await) → is_in_range p i i w ≡ true → IsInRange p i w
    range i w e =
        let halves = and_parts (nat_lt w.agent (length p) && not (w.agent == i)) (nat_le 1 w.count && nat_le w.count (moves p w.agent)) e in
        let front = and_parts (nat_lt w.agent (length p)) (not (w.agent == i)) halves.0 in
        let back = and_parts (nat_le 1 w.count) (nat_le w.count (moves p w.agent)) halves.1 in
        record { agent = ltb-true _ _ front.0; other = eqb-false w.agent i (not-true (w.agent == i) front.1); first = leb-true _ _ back.0; last = leb-true _ _ back.1 }
