-- The breaking holds of one program, by computation.
use Rattle.std.proofs.Common.{◌≡◌, ◌≢◌, ℕ, zero, suc, ◌+◌, ◌<◌, ◌≤◌, Bool, true, not, ◌&&◌, ◌||◌, ◌==◌, nat_lt, nat_le, List, [], ◌∷◌, ◌++◌, length, get_or, slice_index, arith, inl, inr, refl}
use Rattle.std.specs.Prelude.{Contains, ◌⊎◌, ◌↔◌}
use Rattle.std.proofs.lemmas.Bool.{and_parts, and_from, or_cases, cases_lt, leb-true, le-leb, ltb-true, lt-ltb, eqb-true, eqb-false, not-true, both_ways}
use Rattle.std.proofs.lemmas.List.{get_or_past}
use Rattle.fleet_model.specs.declared.geometry.Place.{Place}
use Rattle.fleet_model.specs.declared.program.Await.{Await}
use Rattle.fleet_model.specs.declared.program.ActionId.{ActionId}
use Rattle.fleet_model.specs.declared.program.Visit.{Visit}
use Rattle.fleet_model.specs.Program.{Program, moves, awaits_of}
use Rattle.fleet_model.specs.Geometry.{is_same_place}
use Rattle.fleet_model.specs.Machine.{Configuration, Holds, run, count_at, place_at}
use Rattle.fleet_model.specs.Chain.{Reaches}
use Rattle.fleet_model.specs.Visit.{IsVisit, IsVisitOf, next_move, entering}
use Rattle.fleet_example.proofs.Computed.{at_all_positions, at_position, at_all_awaits, at_await, is_chain, chain_is}
use Rattle.fleet_example.proofs.ComputedVisits.{is_visit_of, visit_is}
use Rattle.fleet_model.proofs.Cells.{is_same_place-true}
use Rattle.fleet_model.proofs.Chains.{Reaches-first, Reaches-trans, own_reach}
use Rattle.fleet_model.specs.Visit.{AreUnordered}
use Rattle.fleet_model.specs.Breaking.{IsNeededFor, IsHeldBack, IsPrepared, AreBreakingHolds}
use Rattle.fleet_verify.specs.Needed.{AreNeeded}
use Rattle.fleet_example.specs.Meetings.{MeetBy}
use Rattle.fleet_verify.proofs.Listing.{as_visit}
use Rattle.fleet_verify.proofs.BreakingHolds.{those_below, those_rise, those_has, those_keep, moves_within, IsBegun, grown, prepared_by_counts, meeting_start}
use Rattle.fleet_verify.proofs.Looking.{looking_end}

-- ---- what is needed

-- the last needed action of agent i begins such a chain, or none is needed
abbrev is_begun_by : Program → Visit → Visit → List ℕ → List (List ActionId) → ℕ → Bool
is_begun_by p v w needed chains i =
    nat_le (slice_index needed i) 0
    || (is_chain p (record { agent = i; number = slice_index needed i }) (get_or chains i []) (entering v)
    || is_chain p (record { agent = i; number = slice_index needed i }) (get_or chains i []) (entering w))

-- of each agent so many actions are needed: both visits are among them, the last begins a chain, and none awaits more
abbrev are_needed : Program → Visit → Visit → List ℕ → List (List ActionId) → Bool
are_needed p v w needed chains =
    (nat_le v.position (slice_index needed v.agent) && nat_le w.position (slice_index needed w.agent))
    && (at_all_positions (λ i n. is_begun_by p v w needed chains i) p
    && at_all_awaits (λ i n a. nat_lt (slice_index needed i) n || nat_le a.count (slice_index needed a.agent)) p)

needed_are : (p : Program) (v w : Visit) (needed : List ℕ) (chains : List (List ActionId)) → length needed ≡ length p → are_needed p v w needed chains ≡ true → AreNeeded p v w (slice_index needed)
needed_are p v w needed chains all e =
    looking_end p v w needed needed
    (record {
      wide = all;
      long = all;
      first = leb-true _ _ visits.0;
      second = leb-true _ _ visits.1;
      sound = λ i c f l. sound i c f l (cases_lt i (length p));
      within = λ i. omega arith;
      closed = closed;
    })
    (λ i l. omega arith)
  where
    halves : ((nat_le v.position (slice_index needed v.agent) && nat_le w.position (slice_index needed w.agent)) ≡ true)
        × ((at_all_positions (λ i n. is_begun_by p v w needed chains i) p && at_all_awaits (λ i n a. nat_lt (slice_index needed i) n || nat_le a.count (slice_index needed a.agent)) p) ≡ true)
    halves = and_parts _ _ e

    visits : (nat_le v.position (slice_index needed v.agent) ≡ true) × (nat_le w.position (slice_index needed w.agent) ≡ true)
    visits = and_parts _ _ halves.0

    rest : (at_all_positions (λ i n. is_begun_by p v w needed chains i) p ≡ true) × (at_all_awaits (λ i n a. nat_lt (slice_index needed i) n || nat_le a.count (slice_index needed a.agent)) p ≡ true)
    rest = and_parts _ _ halves.1

    last : ℕ → ActionId
    last i = record { agent = i; number = slice_index needed i }

    before : (i c : ℕ) (b : ActionId) → 1 ≤ c → c ≤ slice_index needed i → Reaches p (last i) b → Reaches p (record { agent = i; number = c }) b
    before i c b f l r =
        let k = Reaches-first p (last i) b r in
        Reaches-trans p (record { agent = i; number = c }) (last i) b (own_reach p i c (slice_index needed i) k.agent f l k.last) r

    begun : (i c : ℕ) → 1 ≤ c → c ≤ slice_index needed i
        → (nat_le (slice_index needed i) 0 ≡ true) ⊎ ((is_chain p (last i) (get_or chains i []) (entering v) || is_chain p (last i) (get_or chains i []) (entering w)) ≡ true)
        → IsNeededFor p v w (record { agent = i; number = c })
    begun i c f l (inl none) = absurd (omega (arith, leb-true _ _ none))
    begun i c f l (inr some) =
        elim (or_cases (is_chain p (last i) (get_or chains i []) (entering v)) (is_chain p (last i) (get_or chains i []) (entering w)) some) [
          | inl r ↦ inl (before i c (entering v) f l (get_or chains i [], chain_is p (last i) (get_or chains i []) (entering v) r))
          | inr r ↦ inr (before i c (entering w) f l (get_or chains i [], chain_is p (last i) (get_or chains i []) (entering w) r))
        ]

    sound : (i c : ℕ) → 1 ≤ c → c ≤ slice_index needed i → (i < length p) ⊎ (length p ≤ i) → IsNeededFor p v w (record { agent = i; number = c })
    sound i c f l (inl m) = begun i c f l (or_cases _ _ (at_position (λ i n. is_begun_by p v w needed chains i) p rest.0 i 0 m (omega arith)))
    sound i c f l (inr m) = let none : slice_index needed i ≡ 0 = get_or_past needed i 0 (omega arith) in absurd (omega arith)

    closed : (i c : ℕ) (a : Await) → 1 ≤ c → c ≤ slice_index needed i → Contains (awaits_of p i c) a → a.count ≤ slice_index needed a.agent
    closed i c a f l k =
        elim (or_cases (nat_lt (slice_index needed i) c) (nat_le a.count (slice_index needed a.agent)) (at_await (λ i n a. nat_lt (slice_index needed i) n || nat_le a.count (slice_index needed a.agent)) p rest.1 i c a k)) [
          | inl past ↦ absurd (omega (arith, ltb-true _ _ past))
          | inr low ↦ leb-true _ _ low
        ]

-- neither visit is left by a needed action
abbrev are_not_left : Program → Visit → Visit → List ℕ → Bool
are_not_left p v w needed = nat_lt (slice_index needed v.agent) (next_move p v.agent v.position) && nat_lt (slice_index needed w.agent) (next_move p w.agent w.position)

-- so they have no order
unordered_by : (p : Program) (q : Place) (v w : Visit) (needed : List ℕ) → AreNeeded p v w (slice_index needed) → IsVisitOf p q v → IsVisitOf p q w → v.agent ≢ w.agent → are_not_left p v w needed ≡ true → AreUnordered p q v w
unordered_by p q v w needed f first second apart e = record {
  first = first;
  second = second;
  apart = apart;
  forth = λ r. omega (arith, ((f v.agent (next_move p v.agent v.position)).0 (inr r)).1, ltb-true _ _ parts.0);
  back = λ r. omega (arith, ((f w.agent (next_move p w.agent w.position)).0 (inl r)).1, ltb-true _ _ parts.1);
}
  where
    parts : (nat_lt (slice_index needed v.agent) (next_move p v.agent v.position) ≡ true) × (nat_lt (slice_index needed w.agent) (next_move p w.agent w.position) ≡ true)
    parts = and_parts _ _ e

-- ---- the holds

-- agent i has an action left, and the next one is not needed
abbrev is_back : Program → List ℕ → Configuration → ℕ → Bool
is_back p needed c i = nat_lt (count_at c i) (moves p i) && nat_le (slice_index needed i) (count_at c i)

-- those that are held
abbrev pub held_row : Program → List ℕ → Configuration → List ℕ
held_row p needed c = those_below (is_back p needed c) (length p)

row_has : (p : Program) (v w : Visit) (needed : List ℕ) → AreNeeded p v w (slice_index needed) → (c : Configuration) (i : ℕ) → Contains (held_row p needed c) i ↔ IsHeldBack p v w c i
row_has p v w needed f c i = (
  (λ h.
      let parts = and_parts _ _ (those_has (is_back p needed c) (length p) i h) in
      let past = leb-true _ _ parts.1 in
      record { left = ltb-true _ _ parts.0; unneeded = λ k. omega (arith, ((f i (count_at c i + 1)).0 k).1, past) }),
  (λ h.
      let left : count_at c i < moves p i = h.left in
      let past : slice_index needed i ≤ count_at c i = elim (cases_lt (count_at c i) (slice_index needed i)) [
        | inr l ↦ l
        | inl l ↦ absurd (h.unneeded ((f i (count_at c i + 1)).1 (omega arith, omega arith)))
      ] in
      those_keep (is_back p needed c) (length p) i (moves_within p i (omega arith)) (and_from _ _ (lt-ltb _ _ left) (le-leb _ _ past))),
)

-- so many ticks
abbrev pub holds_for : Program → List ℕ → ℕ → Holds
holds_for p needed zero = []
holds_for p needed (suc n) = holds_for p needed n ++ held_row p needed (run p (holds_for p needed n) (length (holds_for p needed n))) ∷ []

-- both agents have come to their visits
abbrev have_come : Program → Visit → Visit → Holds → Bool
have_come p v w holds = nat_le v.position (count_at (run p holds (length holds)) v.agent) && nat_le w.position (count_at (run p holds (length holds)) w.agent)

-- they have not come before n ticks
abbrev are_under_way : Program → Visit → Visit → List ℕ → ℕ → Bool
are_under_way p v w needed zero = true
are_under_way p v w needed (suc n) = not (have_come p v w (holds_for p needed n)) && are_under_way p v w needed n

begun_for : (p : Program) (v w : Visit) → IsVisit p v → IsVisit p w → (needed : List ℕ) → AreNeeded p v w (slice_index needed) → (n : ℕ) → are_under_way p v w needed n ≡ true → IsBegun p v w (holds_for p needed n)
begun_for p v w a b needed f zero e = (meeting_start p v w [] refl _ refl).0
begun_for p v w a b needed f (suc n) e =
    grown p v w holds (begun_for p v w a b needed f n parts.1) open_yet (held_row p needed c) (those_rise (is_back p needed c) (length p)) (row_has p v w needed f c)
  where
    holds : Holds
    holds = holds_for p needed n

    c : Configuration
    c = run p holds (length holds)

    parts : (not (have_come p v w holds) ≡ true) × (are_under_way p v w needed n ≡ true)
    parts = and_parts _ _ e

    open_yet : IsPrepared p v w c → ⊥
    open_yet h =
        let both = (prepared_by_counts p v w a b holds (length holds)).0 h in
        let come : have_come p v w holds ≡ true = and_from _ _ (le-leb _ _ both.0) (le-leb _ _ both.1) in
        both_ways (have_come p v w holds) (not-true (have_come p v w holds) parts.0) come

breaking_by : (p : Program) (v w : Visit) → IsVisit p v → IsVisit p w → (needed : List ℕ) → AreNeeded p v w (slice_index needed) → (n : ℕ) → are_under_way p v w needed n ≡ true → have_come p v w (holds_for p needed n) ≡ true → AreBreakingHolds p v w (holds_for p needed n)
breaking_by p v w a b needed f n before at =
    let g = begun_for p v w a b needed f n before in
    let parts = and_parts _ _ at in
    let holds = holds_for p needed n in
    record { rising = g.rising; rows = g.rows; sooner = g.sooner; prepared = (prepared_by_counts p v w a b holds (length holds)).1 (leb-true _ _ parts.0, leb-true _ _ parts.1) }

-- after the holds both agents are on the place
abbrev pub are_on : Program → Place → Visit → Visit → Holds → Bool
are_on p q v w holds = is_same_place (place_at (run p holds (length holds)) v.agent) q && is_same_place (place_at (run p holds (length holds)) w.agent) q

-- visits of the place by two agents
abbrev pub are_two_visits : Program → Place → Visit → Visit → Bool
are_two_visits p q v w = is_visit_of p q v && (is_visit_of p q w && not (v.agent == w.agent))

-- they need so many actions of each agent, as the chains show, and none of these leaves one of them
abbrev pub have_needs : Program → Visit → Visit → List ℕ → List (List ActionId) → Bool
have_needs p v w needed chains = length needed == length p && (are_needed p v w needed chains && are_not_left p v w needed)

-- after n ticks, and no sooner, both agents have come, and they are on the place
abbrev pub meet_after : Program → Place → Visit → Visit → List ℕ → ℕ → Bool
meet_after p q v w needed n = are_under_way p v w needed n && (have_come p v w (holds_for p needed n) && are_on p q v w (holds_for p needed n))

-- two visits, how many actions of each agent they need, chains that show it, and the number of ticks
pub meet_by : (p : Program) (q : Place) (v w : Visit) (needed : List ℕ) (chains : List (List ActionId)) (n : ℕ)
    → (are_two_visits p q v w && (have_needs p v w needed chains && meet_after p q v w needed n)) ≡ true → MeetBy p q v w (holds_for p needed n)
meet_by p q v w needed chains n e =
    let parts = and_parts (are_two_visits p q v w) (have_needs p v w needed chains && meet_after p q v w needed n) e in
    let rest = and_parts (have_needs p v w needed chains) (meet_after p q v w needed n) parts.1 in
    let visits = and_parts _ _ parts.0 in
    let second = and_parts _ _ visits.1 in
    let on_v = visit_is p q v visits.0 in
    let on_w = visit_is p q w second.0 in
    let sizes = and_parts _ _ rest.0 in
    let needs = and_parts _ _ sizes.1 in
    let f = needed_are p v w needed chains (eqb-true _ _ sizes.0) needs.0 in
    let way = and_parts _ _ rest.1 in
    let come = and_parts _ _ way.1 in
    let on = and_parts _ _ come.1 in
    record {
      unordered = unordered_by p q v w needed f on_v on_w (eqb-false _ _ (not-true _ second.1)) needs.1;
      breaking = breaking_by p v w (as_visit p q v on_v) (as_visit p q w on_w) needed f n way.0 come.0;
      meet = (is_same_place-true _ q on.0, is_same_place-true _ q on.1);
    }
