-- What the places of agents at two times say of the conflicts of their plan.
use Rattle.fleet_plan.proofs.Words.{◌≡◌, ◌≢◌, ℕ, zero, suc, ◌+◌, ◌<◌, ◌≤◌, Bool, true, false, IsTrue, List, [], ◌∷◌, length, get_or, slice_index, All, Option, Some, None, inl, inr, refl, sym, ap, ◌∙◌, subst, arith, map, ◌==◌, EachIndex, range_with_len, cases_eq, cases_lt, cases_order, get_or_past, get_or_default, length-map-range_with_len, get_or-map-range_with_len, Cell, place_of, after_in, place_of-injective, Table, value_in, Ground, IsGround, is_passable, cell_index, Conflict, Vertex, Swapping, Cycle, Plan, cell_of, motion_of, steps, IsPath, GoesRight, path_of, HasConflict, HasNoConflict, time_of, IsKindUpTo, IsConflictUpTo, IsFirstConflict, NamesAgents, ahead_of, walk_of, Leads, IsOnRing, IsLeastOnRing, StandOnMap, StandOnPlaces, Meet, IsFirstMeeting, IsAhead, AreAhead, Exchange, IsFirstExchange, HasNoMeeting, HasNoExchange, IsFirstIn, IsFreeIn, IsEntered, IsAgentSettled, NamesMovers, IsSweep, IsSwept, SweepRows, AreFresh, HasComeTo, IsSoForOthers, MAX_HORIZON}
use Rattle.std.specs.List.{IsDistinct}
use Rattle.std.specs.Prelude.{MatchOption}
use Rattle.fleet_plan.specs.Rings.{IsBlank}
use Rattle.fleet_plan.specs.Sweep.{NamesLeavers}
use Rattle.fleet_grid.specs.Ground.{is_ground_at as ground_at}
use Rattle.fleet_plan.proofs.RingLaws.{some_is, none_is_not, shortened, each_ahead, each_reached, ends_with, each_on_ring, ring-reaches}
use Rattle.fleet_plan.proofs.PathLaws.{at_past}
use Rattle.fleet_plan.proofs.MeetLaws.{ahead_agents, nobody_ahead}

-- ---- cells on the map

-- a passable cell is on the map
pub passable_on_map : (g : Ground) → IsGround g → (c : Cell) → IsTrue (is_passable g (place_of c)) → (c.x < g.width) × (c.y < g.height)
passable_on_map g sizes c p = (column, row)
  where
    row : c.y < g.height
    row = elim (cases_lt c.y g.height) [
      | inl l ↦ l
      | inr l ↦
          let none : get_or g.rows c.y [] ≡ [] = get_or_past g.rows c.y [] (omega (arith, sizes.rows)) in
          let e : ground_at g c.x c.y ≡ false = ap (λ (row : List Bool). get_or row c.x false) none in
          let z : true ≡ false = sym p ∙ e in absurd (cc)
    ]

    column : c.x < g.width
    column = elim (cases_lt c.x g.width) [
      | inl l ↦ l
      | inr l ↦
          let wide : length (get_or g.rows c.y []) ≡ g.width = sizes.cells c.y [] (omega (arith, sizes.rows, row)) in
          let e : ground_at g c.x c.y ≡ false = get_or_past (get_or g.rows c.y []) c.x false (omega arith) in
          let z : true ≡ false = sym p ∙ e in absurd (cc)
    ]

pub all_on_map : (g : Ground) → IsGround g → (plan : Plan) → EachIndex plan (GoesRight (is_passable g) plan) → StandOnMap g plan
unfolding cell_of
all_on_map g sizes plan goes i t l = passable_on_map g sizes (cell_of plan i t) (goes i l t).on_ground

-- ---- after the last step

pub long_enough : (plan : Plan) (i : ℕ) → i < length plan → length (path_of plan i) ≤ steps plan + 1
unfolding steps
long_enough [] i l = absurd (omega arith)
long_enough (path ∷ plan) zero l = omega arith
long_enough (path ∷ plan) (suc i) l = let h : length (path_of plan i) ≤ steps plan + 1 = long_enough plan i (omega arith) in omega arith

-- nobody moves any more
pub stays : (plan : Plan) (i t : ℕ) → i < length plan → steps plan ≤ t → cell_of plan i t ≡ cell_of plan i (steps plan)
unfolding cell_of
stays plan i t l h =
    let long : length (path_of plan i) ≤ steps plan + 1 = long_enough plan i l in
    at_past (path_of plan i) t (omega arith) ∙ sym (at_past (path_of plan i) (steps plan) long)

-- a conflict is not later than the last step
pub none_later : (plan : Plan) → ((d : Conflict) → HasConflict plan d → steps plan < time_of d) → HasNoConflict plan
none_later plan later (Vertex x i j) h =
    let l : steps plan < x = later (Vertex x i j) h in
    let order : i < j = h.0 in
    let within : j < length plan = h.1 in
    let same : motion_of plan (steps plan) i ≡ motion_of plan (steps plan) j = ap place_of (sym (stays plan i x (omega arith) (omega arith))) ∙ h.2.same ∙ ap place_of (stays plan j x within (omega arith)) in
    let m : steps plan < steps plan = later (Vertex (steps plan) i j) (order, within, record { apart = h.2.apart; same = same }) in
    omega arith
none_later plan later (Swapping x i j) h =
    let l : steps plan < x = later (Swapping x i j) h in
    let order : i < j = h.0 in
    let within : j < length plan = h.1 in
    let still : motion_of plan (x + 1) i ≡ motion_of plan x i = ap place_of (stays plan i (x + 1) (omega arith) (omega arith) ∙ sym (stays plan i x (omega arith) (omega arith))) in
    h.2.changed (sym still ∙ h.2.there)
none_later plan later (Cycle x least) h =
    let l : steps plan < x = later (Cycle x least) h in
    let ring = h.0 in
    let c = h.1 in
    let three : 3 ≤ length ring = c.conflict.three in
    let i = get_or ring 0 0 in
    let within : i < length plan = c.agents 0 0 (omega arith) in
    c.conflict.moves 0 (omega arith) (ap place_of (stays plan i (x + 1) within (omega arith) ∙ sym (stays plan i x within (omega arith))))

-- ---- one step

-- no two cells of a map have one place
abbrev pub HavePlaces : Type 0
HavePlaces = (g : Ground) (c d : Cell) → c.x < g.width → d.x < g.width → cell_index g c ≡ cell_index g d → c ≡ d

module _ (have : HavePlaces) (g : Ground) (plan : Plan) (on : StandOnMap g plan) (t : ℕ) (places next : List ℕ) (now : StandOnPlaces g plan t places) (then : StandOnPlaces g plan (t + 1) next) where
  same_place : (i j x y : ℕ) → i < length plan → j < length plan → cell_index g (cell_of plan i x) ≡ cell_index g (cell_of plan j y) → motion_of plan x i ≡ motion_of plan y j
  same_place i j x y li lj e = ap place_of (have g (cell_of plan i x) (cell_of plan j y) ((on i x li).0) ((on j y lj).0) e)

  same_index : (i j x y : ℕ) → motion_of plan x i ≡ motion_of plan y j → cell_index g (cell_of plan i x) ≡ cell_index g (cell_of plan j y)
  same_index i j x y e = ap (cell_index g) (place_of-injective (cell_of plan i x) (cell_of plan j y) e)

  -- meetings
  meet_to : (i j : ℕ) → Meet places i j → HasConflict plan (Vertex t i j)
  meet_to i j m =
      let order : i < j = m.order in
      let within : j < length plan = omega (arith, m.agents, now.all) in
      (order, within, record { apart = (λ e. omega arith); same = same_place i j t t (omega arith) within (sym (now.each i (omega arith)) ∙ m.same ∙ now.each j within) })

  meet_from : (i j : ℕ) → HasConflict plan (Vertex t i j) → Meet places i j
  meet_from i j h =
      let order : i < j = h.0 in
      let within : j < length plan = h.1 in
      record { order = order; agents = omega (arith, now.all); same = now.each i (omega arith) ∙ same_index i j t t h.2.same ∙ sym (now.each j within) }

  module _ (ahead : List (Option ℕ)) (are : AreAhead places next ahead) where
    agents : NamesAgents ahead
    agents = ahead_agents places next ahead are

    inside : (i j : ℕ) → ahead_of ahead i ≡ Some j → i < length plan
    inside i j e = elim (cases_lt i (length ahead)) [
      | inl l ↦ omega (arith, are.all, now.all)
      | inr l ↦ none_is_not j (ahead_of ahead i) e (get_or_past ahead i None l)
    ]

    inside_too : (i j : ℕ) → ahead_of ahead i ≡ Some j → j < length plan
    inside_too i j e = let l : j < length ahead = agents i j e in omega (arith, are.all, now.all)

    is : (i j : ℕ) → ahead_of ahead i ≡ Some j → IsAhead places next i (Some j)
    is i j e = subst (IsAhead places next i) e (are.each i (let l : i < length plan = inside i j e in omega (arith, now.all)))

    goes : (i j : ℕ) → ahead_of ahead i ≡ Some j → motion_of plan (t + 1) i ≡ motion_of plan t j
    goes i j e = same_place i j (t + 1) t (inside i j e) (inside_too i j e) (sym (then.each i (inside i j e)) ∙ sym (is i j e).2 ∙ now.each j (inside_too i j e))

    leaves : (i j : ℕ) → ahead_of ahead i ≡ Some j → motion_of plan (t + 1) i ≢ motion_of plan t i
    leaves i j e s = (is i j e).0 (then.each i (inside i j e) ∙ same_index i i (t + 1) t s ∙ sym (now.each i (inside i j e)))

    not_itself : (i : ℕ) → ahead_of ahead i ≡ Some i → ⊥
    not_itself i e = leaves i i e (goes i i e)

    module _ (apart : HasNoMeeting places) where
      one_there : (i j : ℕ) → i < length places → j < length places → slice_index places i ≡ slice_index places j → i ≡ j
      one_there i j li lj s = elim (cases_order i j) [
        | inl e ↦ e
        | inr u ↦ absurd (elim u [ inl l ↦ apart i j (record { order = l; agents = lj; same = s }) | inr l ↦ apart j i (record { order = l; agents = li; same = sym s }) ])
      ]

      ahead_from : (i j : ℕ) → i < length plan → j < length plan → motion_of plan (t + 1) i ≡ motion_of plan t j → motion_of plan (t + 1) i ≢ motion_of plan t i → ahead_of ahead i ≡ Some j
      ahead_from i j li lj e ne = go (ahead_of ahead i) (are.each i (omega (arith, now.all)))
        where
          there : slice_index next i ≡ slice_index places j
          there = then.each i li ∙ same_index i j (t + 1) t e ∙ sym (now.each j lj)

          go : (o : Option ℕ) → IsAhead places next i o → o ≡ Some j
          go None (inl s) = absurd (ne (same_place i i (t + 1) t li li (sym (then.each i li) ∙ s ∙ now.each i li)))
          go None (inr nobody) = absurd (nobody j (omega (arith, now.all)) (sym there))
          go (Some k) h = ap (λ (z : ℕ). Some z) (one_there k j h.1 (omega (arith, now.all)) (h.2 ∙ there))

      exchange_from : (i j : ℕ) → HasConflict plan (Swapping t i j) → Exchange ahead i j
      exchange_from i j h =
          let order : i < j = h.0 in
          let within : j < length plan = h.1 in
          let li : i < length plan = omega arith in
          record {
            there = ahead_from i j li within h.2.there (λ s. h.2.changed (sym s ∙ h.2.there));
            back = ahead_from j i within li h.2.back (λ s. h.2.changed (sym h.2.back ∙ s));
          }

      ring_from : (least : ℕ) → HasConflict plan (Cycle t least) → IsOnRing ahead least
      ring_from least h =
          let ring = h.0 in
          let c = h.1 in
          let each : (k : ℕ) → k < length ring → ahead_of ahead (get_or ring k 0) ≡ Some (after_in ring k) = λ k l.
          ahead_from (get_or ring k 0) (after_in ring k) (c.agents k 0 l) (after k l) (c.conflict.next k l) (c.conflict.moves k l) in
          let k = c.among.0 in
          let l : k < length ring = c.among.1 in
          subst (IsOnRing ahead) (get_or_default ring k 0 least l ∙ c.among.2) (each_on_ring ahead ring each k l)
        where
          after : (k : ℕ) → k < length h.0 → after_in h.0 k < length plan
          after k l = elim (cases_lt (k + 1) (length h.0)) [
            | inl g ↦ h.1.agents (k + 1) (get_or h.0 0 0) g
            | inr g ↦ subst (λ z. z < length plan) (sym (get_or_past h.0 (k + 1) (get_or h.0 0 0) g)) (h.1.agents 0 0 (omega arith))
          ]

    exchange_to : (i j : ℕ) → Exchange ahead i j → i < j → HasConflict plan (Swapping t i j)
    exchange_to i j x l = (
      l,
      inside_too i j x.there,
      record {
        apart = (λ e. omega arith);
        there = goes i j x.there;
        back = goes j i x.back;
        changed = λ s. leaves i j x.there (goes i j x.there ∙ sym s);
      },
    )

    module _ (none : (i j : ℕ) → Exchange ahead i j → ⊥) (least : ℕ) (r : IsLeastOnRing ahead least) where
      three : (j : ℕ) (js : List ℕ) → Leads ahead least (j ∷ js) least → 3 ≤ length (j ∷ js)
      three j [] f = absurd (not_itself least (f.0 ∙ ap (λ (z : ℕ). Some z) f.1))
      three j (k ∷ []) f = absurd (none least j (record { there = f.0; back = f.1.0 ∙ ap (λ (z : ℕ). Some z) f.1.1 }))
      three j (k ∷ m ∷ js) f = omega arith

      module _ (j : ℕ) (js : List ℕ) (f : Leads ahead least (j ∷ js) least) (u : IsDistinct ◌==◌ (j ∷ js)) where
        ahead_is : (k : ℕ) → k < length (j ∷ js) → ahead_of ahead (get_or (j ∷ js) k 0) ≡ Some (after_in (j ∷ js) k)
        ahead_is k l = each_ahead ahead least (j ∷ js) least j f f.0 k l ∙ ap (λ z. Some (get_or (j ∷ js) z j)) (let e : suc k ≡ k + 1 = omega arith in e)

        below : All (λ i. i < length plan) (j ∷ js)
        below k d l = subst (λ z. z < length plan) (get_or_default (j ∷ js) k 0 d l) (inside (get_or (j ∷ js) k 0) (after_in (j ∷ js) k) (ahead_is k l))

        least_one : All (λ i. least ≤ i) (j ∷ js)
        least_one k d l = r.least (get_or (j ∷ js) k d) ((let g = each_reached ahead least (j ∷ js) least f k d l in ring-reaches ahead least g.0 (get_or (j ∷ js) k d) r.ring g.1).0)

        ring_of : HasConflict plan (Cycle t least)
        ring_of = (
          j ∷ js,
          record {
            agents = below;
            conflict = record {
              three = three j js f;
              distinct = u;
              next = λ k l. goes (get_or (j ∷ js) k 0) (after_in (j ∷ js) k) (ahead_is k l);
              moves = λ k l. leaves (get_or (j ∷ js) k 0) (after_in (j ∷ js) k) (ahead_is k l);
            };
            among = ends_with ahead least j js least f;
            least_one = least_one;
          },
        )

      ring_to : HasConflict plan (Cycle t least)
      ring_to = let s = shortened ahead least r.ring.next r.ring.back.0 least (r.ring.ahead_is, r.ring.back.1) in ring_of s.0 s.1 s.2 s.3

  -- ---- the first conflict

  -- no conflict is earlier
  module _ (earlier : (d : Conflict) → HasConflict plan d → t ≤ time_of d) where
    up_to : (c d : Conflict) → time_of c ≡ t → HasConflict plan d → (time_of d ≡ t → IsKindUpTo c d) → IsConflictUpTo c d
    up_to c d e h kind =
        let l : t ≤ time_of d = earlier d h in
        elim (cases_eq (time_of d) t) [
          | inl s ↦ inr (e ∙ sym s, kind s)
          | inr ne ↦ inl (omega arith)
        ]

    first_vertex : (i j : ℕ) → IsFirstMeeting places i j → IsFirstConflict plan (Vertex t i j)
    first_vertex i j m = record { conflict = meet_to i j m.meet; first = λ d h. up_to (Vertex t i j) d refl h (kind d h) }
      where
        kind : (d : Conflict) → HasConflict plan d → time_of d ≡ t → IsKindUpTo (Vertex t i j) d
        kind (Vertex y k l) h e = m.first k l (meet_from k l (subst (λ z. HasConflict plan (Vertex z k l)) e h))
        kind (Swapping y k l) h e = tt
        kind (Cycle y b) h e = tt

    first_swapping : (i j : ℕ) → HasNoMeeting places → (ahead : List (Option ℕ)) → AreAhead places next ahead → IsFirstExchange ahead i j → IsFirstConflict plan (Swapping t i j)
    first_swapping i j apart ahead are x = record { conflict = exchange_to ahead are i j x.exchange order; first = λ d h. up_to (Swapping t i j) d refl h (kind d h) }
      where
        order : i < j
        order =
            let le : i ≤ j = x.first j i (record { there = x.exchange.back; back = x.exchange.there }) in
            elim (cases_eq i j) [
              | inl e ↦ absurd (not_itself ahead are i (x.exchange.there ∙ ap (λ (z : ℕ). Some z) (sym e)))
              | inr ne ↦ omega arith
            ]

        kind : (d : Conflict) → HasConflict plan d → time_of d ≡ t → IsKindUpTo (Swapping t i j) d
        kind (Vertex y k l) h e = apart k l (meet_from k l (subst (λ z. HasConflict plan (Vertex z k l)) e h))
        kind (Swapping y k l) h e =
            let o = exchange_from ahead are apart k l (subst (λ z. HasConflict plan (Swapping z k l)) e h) in
            let le : i ≤ k = x.first k l o in
            elim (cases_eq i k) [
              | inl s ↦ inr (s, (let g : j ≡ l = some_is j l (ahead_of ahead i) x.exchange.there (ap (ahead_of ahead) s ∙ o.there) in omega arith))
              | inr ne ↦ inl (omega arith)
            ]
        kind (Cycle y b) h e = tt

    first_cycle : (least : ℕ) (ahead : List (Option ℕ)) → AreAhead places next ahead → HasNoExchange places ahead → IsLeastOnRing ahead least → IsFirstConflict plan (Cycle t least)
    first_cycle least ahead are none r = record { conflict = ring_to ahead are none.none least r; first = λ d h. up_to (Cycle t least) d refl h (kind d h) }
      where
        kind : (d : Conflict) → HasConflict plan d → time_of d ≡ t → IsKindUpTo (Cycle t least) d
        kind (Vertex y k l) h e = none.apart k l (meet_from k l (subst (λ z. HasConflict plan (Vertex z k l)) e h))
        kind (Swapping y k l) h e = none.none k l (exchange_from ahead are none.apart k l (subst (λ z. HasConflict plan (Swapping z k l)) e h))
        kind (Cycle y b) h e = r.least b (ring_from ahead are none.apart b (subst (λ z. HasConflict plan (Cycle z b)) e h))

    pub first_is : (c : Conflict) → IsFirstIn places next t c → IsFirstConflict plan c
    first_is (Vertex x i j) h = subst (λ z. IsFirstConflict plan (Vertex z i j)) (sym h.0) (first_vertex i j h.1)
    first_is (Swapping x i j) h = subst (λ z. IsFirstConflict plan (Swapping z i j)) (sym h.0) (first_swapping i j h.1 h.2.0 h.2.1 h.2.2)
    first_is (Cycle x least) h = subst (λ z. IsFirstConflict plan (Cycle z least)) (sym h.0) (first_cycle least h.1.0 h.1.1 h.1.2 h.1.3)

    pub none_here : IsFreeIn places next → (d : Conflict) → HasConflict plan d → t + 1 ≤ time_of d
    none_here free d h =
        let l : t ≤ time_of d = earlier d h in
        elim (cases_eq (time_of d) t) [
          | inl e ↦ absurd (no d h e)
          | inr ne ↦ omega arith
        ]
      where
        no : (d : Conflict) → HasConflict plan d → time_of d ≡ t → ⊥
        no (Vertex y k l) h e = free.none.apart k l (meet_from k l (subst (λ z. HasConflict plan (Vertex z k l)) e h))
        no (Swapping y k l) h e = free.none.none k l (exchange_from free.ahead free.are_ahead free.none.apart k l (subst (λ z. HasConflict plan (Swapping z k l)) e h))
        no (Cycle y b) h e = free.no_ring b (ring_from free.ahead free.are_ahead free.none.apart b (subst (λ z. HasConflict plan (Cycle z b)) e h))

-- ---- the loop over time

pub swept_all : (plan : Plan) (t : ℕ) → ((d : Conflict) → HasConflict plan d → t ≤ time_of d) → steps plan + 1 ≤ t → HasNoConflict plan
swept_all plan t earlier l = none_later plan (λ d h. let g : t ≤ time_of d = earlier d h in omega arith)

pub few_steps : (plan : Plan) → All IsPath plan → steps plan ≤ MAX_HORIZON
unfolding steps
few_steps [] all = omega arith
few_steps (path ∷ plan) all =
    let here : IsPath path = all 0 [] (omega arith) in
    let rest : steps plan ≤ MAX_HORIZON = few_steps plan (λ k d l. all (suc k) d (omega arith)) in
    omega (arith, here.few_cells)

-- the agents have places at any time
places_at : (g : Ground) (plan : Plan) (t : ℕ) → (next : List ℕ) × StandOnPlaces g plan t next
places_at g plan t = (map f (range_with_len 0 (length plan)), record { all = length-map-range_with_len f 0 (length plan); each = λ i l. get_or-map-range_with_len f 0 (length plan) i i 0 l (omega arith) })
  where
    f : ℕ → ℕ
    f i = cell_index g (cell_of plan i t)

-- two agents in one place are the first conflict
pub first_meets : HavePlaces → (g : Ground) (plan : Plan) → StandOnMap g plan → (t : ℕ) (places : List ℕ) → IsSweep g plan places t → (i j : ℕ) → IsFirstMeeting places i j → IsFirstConflict plan (Vertex t i j)
first_meets have g plan on t places s i j m =
    let next = places_at g plan (t + 1) in
    first_is have g plan on t places next.0 s.here next.1 s.earlier (Vertex t i j) (refl, m)

-- what one step of the loop found
pub found_is : HavePlaces → (g : Ground) (plan : Plan) → StandOnMap g plan → (t : ℕ) (places next : List ℕ) → IsSweep g plan places t → StandOnPlaces g plan (t + 1) next → (found : Option Conflict) → MatchOption found (IsFreeIn places next) (IsFirstIn places next t) → MatchOption found (IsSweep g plan next (t + 1)) (IsFirstConflict plan)
found_is have g plan on t places next s then None h = record { here = then; earlier = none_here have g plan on t places next s.here then s.earlier h }
found_is have g plan on t places next s then (Some c) h = first_is have g plan on t places next s.here then s.earlier c h

-- ---- the rows of the loop

-- one whose path has ended stays in its place
pub stays_there : (g : Ground) (plan : Plan) (t i : ℕ) → length (path_of plan i) ≤ t + 1 → cell_index g (cell_of plan i t) ≡ cell_index g (cell_of plan i (t + 1))
unfolding cell_of
stays_there g plan t i l = ap (cell_index g) (at_past (path_of plan i) t l ∙ sym (at_past (path_of plan i) (t + 1) (omega arith)))

module _ (g : Ground) (plan : Plan) (table : Table ℕ) (places next : List ℕ) (ahead walks : List (Option ℕ)) (row : List ℕ) (t : ℕ) (s : IsSwept g plan table places next ahead walks row t) (all : length next ≡ length plan) where
  -- who does not stand in the row is where it goes
  pub others_there : IsSoForOthers row (length plan) (λ i. slice_index next i ≡ cell_index g (cell_of plan i (t + 1)))
  others_there i l = elim (s.covers.others i l) [
    | inl c ↦ inl c
    | inr e ↦ inr ((s.settled i (omega (arith, all))).same ∙ s.sweep.here.each i l ∙ stays_there g plan t i e)
  ]

  pub nobody_yet : length ahead ≡ length plan → IsBlank (length places) ahead
  nobody_yet few = record {
    all = omega (arith, few, s.sweep.here.all);
    none = λ i. elim (cases_lt i (length ahead)) [
      | inl l ↦ (s.settled i (omega (arith, few, all))).nobody
      | inr l ↦ get_or_past ahead i None l
    ];
  }

  module _ (next' : List ℕ) (then : StandOnPlaces g plan (t + 1) next') where
    others_stay : IsSoForOthers row (length places) (λ i. slice_index next' i ≡ slice_index places i)
    others_stay i l = let b : i < length plan = omega (arith, s.sweep.here.all) in elim (s.covers.others i b) [
      | inl c ↦ inl c
      | inr e ↦ inr (then.each i b ∙ sym (stays_there g plan t i e) ∙ sym (s.sweep.here.each i b))
    ]

    pub names_leavers : NamesLeavers places next' row
    names_leavers = record {
      all = omega (arith, then.all, s.sweep.here.all);
      agents = λ k d l. let b = s.covers.agents k d l in omega (arith, b, s.sweep.here.all);
      others = others_stay;
    }

    pub others_entered : IsSoForOthers row (length next') (λ i. value_in table (slice_index next' i) ≡ i)
    others_entered i l = let b : i < length places = omega (arith, then.all, s.sweep.here.all) in elim (others_stay i b) [
      | inl c ↦ inl c
      | inr e ↦ inr (ap (value_in table) e ∙ s.entered i b)
    ]

    module _ (ahead' : List (Option ℕ)) (are : AreAhead places next' ahead') where
      pub others_alone : IsSoForOthers row (length ahead') (λ i. ahead_of ahead' i ≡ None)
      others_alone i l = let b : i < length places = omega (arith, are.all) in elim (others_stay i b) [
        | inl c ↦ inl c
        | inr e ↦ inr (nobody_ahead places next' ahead' are i b e)
      ]

      pub names_movers : NamesMovers ahead' row
      names_movers = record {
        names = ahead_agents places next' ahead' are;
        few = s.covers.few;
        agents = λ k d l. let b = s.covers.agents k d l in omega (arith, b, are.all, s.sweep.here.all);
        others = others_alone;
      }

      pub unwalked_yet : length walks ≡ length plan → IsBlank (length ahead') walks
      unwalked_yet few = record {
        all = omega (arith, few, are.all, s.sweep.here.all);
        none = λ i. elim (cases_lt i (length walks)) [
          | inl l ↦ (s.settled i (omega (arith, few, all))).unwalked
          | inr l ↦ get_or_past walks i None l
        ];
      }

      pub others_settled : (walks' : List (Option ℕ)) → ((i : ℕ) → ahead_of ahead' i ≡ None → walk_of walks' i ≡ None) → IsSoForOthers row (length next') (IsAgentSettled places next' ahead' walks')
      others_settled walks' none i l = let b : i < length places = omega (arith, then.all, s.sweep.here.all) in elim (others_stay i b) [
        | inl c ↦ inl c
        | inr e ↦ let alone = nobody_ahead places next' ahead' are i b e in inr (record { same = e; nobody = alone; unwalked = none i alone })
      ]

-- the sweep begins
pub come_first : (g : Ground) (plan : Plan) (table : Table ℕ) (places : List ℕ) (rows : SweepRows) → AreFresh plan rows → StandOnPlaces g plan 0 places → IsEntered table places
    → HasComeTo g plan 0 (record { table = table; places = places; next = places; ahead = rows.ahead; walks = rows.walks; agents = rows.agents })
come_first g plan table places rows fresh here entered = record {
  fits = record { places = here.all; next = here.all; ahead = fresh.fits.ahead; walks = fresh.fits.walks };
  swept = record {
    sweep = record { here = here; earlier = λ d h. omega arith };
    entered = entered;
    settled = λ i l. record { same = refl; nobody = fresh.nobody i; unwalked = fresh.unwalked i };
    covers = fresh.covers;
  };
}

-- the rows may be told as slices
pub come_to_as : (g : Ground) (plan : Plan) (t : ℕ) (rows : SweepRows) (places next : List ℕ) (ahead walks : List (Option ℕ)) → places ≡ rows.places → next ≡ rows.next → ahead ≡ rows.ahead → walks ≡ rows.walks → HasComeTo g plan t rows → HasComeTo g plan t (record { table = rows.table; places = places; next = next; ahead = ahead; walks = walks; agents = rows.agents })
come_to_as g plan t rows places next ahead walks same_places same_next same_ahead same_walks come = rw (same_places, same_next, same_ahead, same_walks) come
