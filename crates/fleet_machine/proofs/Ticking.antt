-- The steps of a tick, one after another.
use Rattle.std.proofs.Common.{◌≡◌, ◌<◌, ◌≤◌, ◌+◌, ◌||◌, ◌&&◌, not, ℕ, Bool, true, false, List, [], length, filter, set, slice_get, Option, Some, None, refl, ap, sym, ◌∙◌, subst, inl, inr, ◌⊎◌, arith, cond, add-one}
use Rattle.std.specs.Prelude.{nat_le, ◌==◌}
use Rattle.std.proofs.lemmas.Bool.{cases_lt, cases_Bool, lt-ltb, lt-leb, leb-false, and_cases, and_parts, or_parts, true≢false}
use Rattle.std.proofs.lemmas.List.{get_or_past}
use Rattle.std.proofs.lemmas.List.Folds.{list_any_at}
use Rattle.std.proofs.lemmas.List.FromFn.{get_or-map-range_with_len, length-map-range_with_len}
use Rattle.std.proofs.lemmas.Option.{slice_get_past, slice_get_within, get_or_from_slice_get}
use Rattle.fleet_model.specs.declared.program.Await.{Await}
use Rattle.fleet_model.specs.declared.standing.Standing.{Standing}
use Rattle.fleet_model.specs.Program.{Program, IsWellFormed, moves, actions_of, awaits_of}
use Rattle.fleet_model.specs.Machine.{Configuration, standing_at, count_at, is_met, is_ready, is_moving, is_ready_held, moved_in, tick, indices}
use Rattle.fleet_model.proofs.Tick.{length-tick, standing_at_tick, other_stays}
use Rattle.fleet_machine.specs.AgentSet.{AreNoneFrom, IsNextFrom}
use Rattle.fleet_machine.specs.Looked.{ready_in, awaits_moving, awaiting_in, LooksAt}
use Rattle.fleet_machine.specs.WaitLists.{home_of}
use Rattle.fleet_machine.specs.declared.steps.Mark.{Mark}
use Rattle.fleet_machine.specs.Machine.{MachineState, Runs, HasRows, IsHome, IsJudged, IsRead, Lacks, flag_of, list_of, agent_of, mark_of, is_left, is_reached, least_of, passed, after_next, marks_after, moving_flags}
use Rattle.fleet_machine.specs.Waking.{is_on, if_not_on, is_woken_by, advanced_one, held_back, after_moves, IsWoken, IsCarriedOut, CanJudge, HasJudged}
use Rattle.fleet_machine.proofs.Indices.{filter_more}
use Rattle.fleet_machine.proofs.Advanced.{onward, IsAdvanced, one_moves, one_held, all_wait, all_advanced, all_flagged}
use Rattle.fleet_machine.proofs.Lasting.{ready_lasts, count_rises}
use Rattle.fleet_machine.proofs.Waiting.{agent_of_list}
use Rattle.fleet_machine.proofs.Waking.{eqb-refl}
use Rattle.fleet_machine.proofs.Marks.{ArePassedTo, all_stay, all_passed, long_after, mark_unmoved, read_after, flagged_after}
use Rattle.fleet_machine.proofs.Marks.{one_moves as mark_moves, one_stays as mark_stays}
use Rattle.fleet_machine.proofs.Judging.{none_more_counted, one_more_counted, counted_le}
use Rattle.fleet_machine.proofs.Ready.{no_action_left, has_next, not_ready_if_unmet, awaited_agent}

-- ---- who is ready moves, or is held

-- the machine as if nobody had been taken off a list in this tick
abbrev pub unwoken : (old now : MachineState) → MachineState
unwoken old now = record now { due = now.moving; waiting = old.waiting; least = old.least }

-- the agents below n have moved, or stay for this tick, and so many of them were ready
pub record IsAdvancedTo (p : Program) (held : ℕ → Bool) (old now : MachineState) (n moved : ℕ) (ready_held : Bool) (ready : ℕ) : Type 0 where
  pub same : now ≡ record old { configuration = now.configuration; marks = now.marks; moving = now.moving; due = now.moving }
  pub passes : ArePassedTo p held old now.marks n
  pub done : IsAdvanced p held old.configuration now.configuration now.moving n moved ready_held
  pub counted : ready ≡ length (filter (is_ready p old.configuration) (indices n))
  pub within : n ≤ length p

module _ (p : Program) (held : ℕ → Bool) (old : MachineState) (runs : Runs p old)
    (now : MachineState) (from moved : ℕ) (ready_held : Bool) (ready : ℕ) (before : IsAdvancedTo p held old now from moved ready_held ready) where
  ready_is : (k : ℕ) → k < length p → is_ready p old.configuration k ≡ flag_of now.ready k
  ready_is k agent = sym (runs.judged k agent).ready ∙ ap (λ (m : MachineState). flag_of m.ready k) (sym before.same)

  pub few_ready : ready ≤ from
  few_ready = let few = counted_le (is_ready p old.configuration) from in omega (arith, before.counted)

  -- up to the end
  module _ (none : AreNoneFrom now.ready from) where
    all_done : IsAdvanced p held old.configuration now.configuration now.moving (length p) moved ready_held
    all_done =
        all_wait p held old.configuration now.configuration now.moving from (length p) moved ready_held before.within (omega arith) (λ k later below. ready_is k below ∙ none k later) before.done

    pub all_counted : moved ≡ moved_in p held old.configuration
    all_counted = all_done.counted

    pub any_held : ready_held ≡ is_ready_held p held old.configuration
    any_held = all_done.held_is

    pub all_moved : now ≡ after_moves p held old
    all_moved =
        before.same
        ∙ (ap (λ (rows : Configuration). record old { configuration = rows; marks = now.marks; moving = now.moving; due = now.moving }) (all_advanced p held old.configuration now.configuration now.moving moved ready_held all_done)
        ∙ (ap (λ (marks : List Mark). record old { configuration = tick p held old.configuration; marks = marks; moving = now.moving; due = now.moving }) all_read
        ∙ ap (λ (flags : List Bool). record old { configuration = tick p held old.configuration; marks = marks_after p held old; moving = flags; due = flags }) (all_flagged p held old.configuration now.configuration now.moving moved ready_held all_done)))
      where
        all_read : now.marks ≡ marks_after p held old
        all_read = all_passed p held old now.marks (all_stay p held old now.marks from (length p) before.within (λ k later below. still k (ready_is k below ∙ none k later)) before.passes)
          where
            still : (k : ℕ) → is_ready p old.configuration k ≡ false → is_moving p held old.configuration k ≡ false
            still k unready = rw unready refl

    -- nobody is to move any more
    pub none_to_move : AreNoneFrom now.moving from
    none_to_move k later =
        elim (cases_lt k (length p)) [
          | inl agent ↦ before.done.to_move k later agent ∙ (ready_is k agent ∙ none k later)
          | inr past ↦ get_or_past now.moving k false (omega (arith, before.done.flags))
        ]

    pub all_ready : ready ≡ ready_in p old.configuration
    all_ready =
        none_more_counted (is_ready p old.configuration) from (length p) ready before.within (λ k later below. ready_is k below ∙ none k later) before.counted

  -- the next one that is ready
  module _ (i : ℕ) (next : IsNextFrom now.ready from i) where
    pub ready_agent : i < length p
    ready_agent = omega (arith, next.agent, ap (λ (m : MachineState). length m.ready) before.same, runs.rows.ready)

    pub next_is_ready : is_ready p old.configuration i ≡ true
    next_is_ready = ready_is i ready_agent ∙ next.member

    waits : (k : ℕ) → from ≤ k → k < i → is_ready p old.configuration k ≡ false
    waits k later below = let agent = ready_agent in ready_is k (omega arith) ∙ next.between k later below

    -- it is the next that is to move
    pub next_to_move : IsNextFrom now.moving from i
    next_to_move = record {
      agent = omega (arith, ready_agent, before.done.flags);
      later = next.later;
      member = before.done.to_move i next.later ready_agent ∙ next_is_ready;
      between = λ k later below. let agent = ready_agent in before.done.to_move k later (omega arith) ∙ waits k later below;
    }

    here : IsAdvanced p held old.configuration now.configuration now.moving i moved ready_held
    here = let agent = ready_agent in all_wait p held old.configuration now.configuration now.moving from i moved ready_held next.later (omega arith) waits before.done

    reads : ArePassedTo p held old now.marks i
    reads = all_stay p held old now.marks from i next.later (λ k later below. still k (waits k later below)) before.passes
      where
        still : (k : ℕ) → is_ready p old.configuration k ≡ false → is_moving p held old.configuration k ≡ false
        still k unready = rw unready refl

    more : ready + 1 ≡ length (filter (is_ready p old.configuration) (indices (i + 1)))
    more = one_more_counted (is_ready p old.configuration) i ready next_is_ready (none_more_counted (is_ready p old.configuration) from i ready next.later waits before.counted)

    pub one_advanced : held i ≡ false → IsAdvancedTo p held old (advanced_one p now i) (i + 1) (moved + 1) ready_held (ready + 1)
    one_advanced free = record {
      same = ap (λ (m : MachineState). record m {
        configuration = set now.configuration i (after_next p now.configuration i);
        marks = set now.marks i (passed (mark_of now.marks i));
      }) before.same;
      passes = mark_moves p held old now.marks i ready_agent (rw (next_is_ready, free) refl) reads;
      done = one_moves p held old.configuration now.configuration now.moving i moved ready_held here ready_agent next_is_ready free;
      counted = more;
      within = omega (arith, ready_agent);
    }

    pub one_held_back : held i ≡ true → IsAdvancedTo p held old (held_back now i) (i + 1) moved true (ready + 1)
    one_held_back is = record {
      same = ap (λ (m : MachineState). record m { moving = set now.moving i false; due = set m.due i false }) before.same;
      passes = mark_stays p held old now.marks i (rw (next_is_ready, is) refl) reads;
      done = one_held p held old.configuration now.configuration now.moving i moved ready_held here ready_agent next_is_ready is;
      counted = more;
      within = omega (arith, ready_agent);
    }

-- ---- agents that lack a count

module _ (p : Program) (c : Configuration) (least i j : ℕ) (lacks : Lacks p c least i j) where
  left_if_lacking : count_at c i < moves p i
  left_if_lacking =
      elim (cases_lt (count_at c i) (moves p i)) [
        | inl lt ↦ lt
        | inr le ↦
            let none : awaits_of p i (count_at c i + 1) ≡ [] = rw (add-one, slice_get_past (actions_of p i) (count_at c i) le) refl in
            absurd (nothing (sym (ap (λ ws. slice_get ws lacks.is_unmet.place) none) ∙ lacks.is_unmet.at))
      ]
    where
      nothing : {w : Await} → ◌≡◌ {A = Option Await} None (Some w) → ⊥
      nothing e = absurd cc

  unready_if_lacking : is_ready p c i ≡ false
  unready_if_lacking = sym (not_ready_if_unmet p c i left_if_lacking lacks.is_unmet.place lacks.awaited lacks.is_unmet.at lacks.is_unmet.unmet)

  agent_here : agent_of j ≡ lacks.awaited.agent
  agent_here = ap agent_of (sym lacks.list) ∙ agent_of_list lacks.awaited

  lacked_agent : IsWellFormed p → agent_of j < length p
  lacked_agent ok = let there = awaited_agent p i (count_at c i + 1) lacks.is_unmet.place lacks.awaited ok lacks.is_unmet.at in omega (arith, there, agent_here)

  awaits_if_lacking : (held : ℕ → Bool) → is_moving p held c (agent_of j) ≡ true → awaits_moving p held c i ≡ true
  awaits_if_lacking held moves =
      let n = has_next p c i left_if_lacking in
      let place = lacks.is_unmet.place in
      let at : slice_get n.0.awaits place ≡ Some lacks.awaited = ap (λ ws. slice_get ws place) (sym n.1.awaits) ∙ lacks.is_unmet.at in
      rw n.1.next (list_any_at (λ w. is_moving p held c w.agent) n.0.awaits place lacks.awaited (slice_get_within n.0.awaits place lacks.awaited at)
      (rw (get_or_from_slice_get n.0.awaits place lacks.awaited lacks.awaited at, sym agent_here) moves))

-- who is ready stands in no list
pub nowhere_if_ready : (p : Program) (m : MachineState) → Runs p m → (k : ℕ) → k < length p → is_ready p m.configuration k ≡ true → home_of m.waiting.homes k ≡ None
nowhere_if_ready p m runs k agent ready = go (home_of m.waiting.homes k) (runs.judged k agent).home
  where
    go : (h : Option ℕ) → IsHome p m.configuration m.least k h → h ≡ None
    go None home = refl
    go (Some j) home = absurd (true≢false (sym ready ∙ unready_if_lacking p m.configuration (least_of m.least j) k j home))

-- ---- how many pass a test

one_more : (a b : ℕ) (x y : Bool) → (x ≡ true → y ≡ true) → a ≤ b → a + cond x 1 0 ≤ b + cond y 1 0
one_more a b true true h le = omega arith
one_more a b true false h le = absurd (true≢false (sym (h refl)))
one_more a b false true h le = omega arith
one_more a b false false h le = omega arith

fewer_pass : (test other : ℕ → Bool) (n : ℕ) → ((k : ℕ) → k < n → test k ≡ true → other k ≡ true) → length (filter test (indices n)) ≤ length (filter other (indices n))
fewer_pass test other n h =
    onward (λ k. length (filter test (indices k)) ≤ length (filter other (indices k))) 0 n (omega arith)
    (λ k from below before. rw (filter_more test k, filter_more other k) (one_more _ _ (test k) (other k) (h k below) before)) (omega arith)

one_of_two : (a b c : ℕ) (x y z : Bool) → (x ≡ true → (y ≡ true) ⊎ (z ≡ true)) → a ≤ b + c → a + cond x 1 0 ≤ b + cond y 1 0 + (c + cond z 1 0)
one_of_two a b c false true true h le = omega arith
one_of_two a b c false true false h le = omega arith
one_of_two a b c false false true h le = omega arith
one_of_two a b c false false false h le = omega arith
one_of_two a b c true true true h le = omega arith
one_of_two a b c true true false h le = omega arith
one_of_two a b c true false true h le = omega arith
one_of_two a b c true false false h le = elim (h refl) [ inl e ↦ absurd (true≢false (sym e)) | inr e ↦ absurd (true≢false (sym e)) ]

either_passes : (test one other : ℕ → Bool) (n : ℕ) → ((k : ℕ) → k < n → test k ≡ true → (one k ≡ true) ⊎ (other k ≡ true))
    → length (filter test (indices n)) ≤ length (filter one (indices n)) + length (filter other (indices n))
either_passes test one other n h =
    onward (λ k. length (filter test (indices k)) ≤ length (filter one (indices k)) + length (filter other (indices k))) 0 n (omega arith)
    (λ k from below before. rw (filter_more test k, filter_more one k, filter_more other k) (one_of_two _ _ _ (test k) (one k) (other k) (h k below) before)) (omega arith)

-- ---- a tick

module _ (p : Program) (held : ℕ → Bool) (m : MachineState) (runs : Runs p m) where
  abbrev c : Configuration
  c = m.configuration

  abbrev after : Configuration
  after = tick p held c

  -- the agents that the tick moves have moved
  abbrev moved : MachineState
  moved = after_moves p held m

  -- the lists that are woken
  abbrev woken_lists : ℕ → Bool
  woken_lists = is_woken_by moved

  flag_is_moving : (j : ℕ) → j < length p → flag_of (moving_flags p held c) j ≡ is_moving p held c j
  flag_is_moving j agent = get_or-map-range_with_len (is_moving p held c) 0 (length p) j j false agent (omega arith)

  -- an agent that stays
  module _ (k : ℕ) (agent : k < length p) (stays : is_moving p held c k ≡ false) where
    stands : standing_at after k ≡ standing_at c k
    stands = standing_at_tick p held c k agent ∙ other_stays p held c k stays

    same_count : count_at after k ≡ count_at c k
    same_count = ap (λ (s : Standing). s.count) stands

    left_as_before : is_left p after k ≡ is_left p c k
    left_as_before = rw same_count refl

    -- the await that it lacks is not met after the tick, if its agent rests or its list is not reached
    lacks_still : (j : ℕ) → (is_moving p held c (agent_of j) ≡ false) ⊎ (is_reached moved j ≡ false) → Lacks p c (least_of m.least j) k j → Lacks p after (least_of m.least j) k j
    lacks_still j rests lacks =
        record {
          awaited = lacks.awaited;
          is_unmet = record { place = lacks.is_unmet.place; at = rw same_count lacks.is_unmet.at; unmet = unmet_by rests };
          list = lacks.list;
          late = lacks.late;
        }
      where
        here : agent_of j ≡ lacks.awaited.agent
        here = agent_here p c (least_of m.least j) k j lacks

        -- the count came to the awaited one, whose list would be reached
        other_count : (list_of (record { agent = agent_of j; count = count_at after (agent_of j) }) == j) ≡ false → count_at after lacks.awaited.agent < lacks.awaited.count
        other_count other =
            elim (cases_lt (count_at after lacks.awaited.agent) lacks.awaited.count) [
              | inl lt ↦ lt
              | inr le ↦
                  let short : count_at c lacks.awaited.agent < lacks.awaited.count = leb-false lacks.awaited.count (count_at c lacks.awaited.agent) lacks.is_unmet.unmet in
                  let more = count_rises p held c runs.agents lacks.awaited.agent in
                  let same : count_at after lacks.awaited.agent ≡ lacks.awaited.count = omega (arith, short, more, le) in
                  let list : list_of (record { agent = agent_of j; count = count_at after (agent_of j) }) ≡ j = ap (λ (n : ℕ). list_of (record { agent = n; count = count_at after n })) here ∙ (ap (λ (n : ℕ). list_of (record { agent = lacks.awaited.agent; count = n })) same ∙ lacks.list) in
                  absurd (true≢false (sym (ap (λ (n : ℕ). n == j) list ∙ eqb-refl j) ∙ other))
            ]

        early : nat_le (least_of m.least j) (count_at after (agent_of j)) ≡ false → count_at after lacks.awaited.agent < lacks.awaited.count
        early unreached =
            let short = leb-false (least_of m.least j) (count_at after (agent_of j)) unreached in
            let same = ap (λ (n : ℕ). count_at after n) here in
            omega (arith, short, same, lacks.late)

        unmet_by : (is_moving p held c (agent_of j) ≡ false) ⊎ (is_reached moved j ≡ false) → is_met after lacks.awaited ≡ false
        unmet_by (inl still) =
            let there = lacked_agent p c (least_of m.least j) k j lacks runs.well_formed in
            let same : standing_at after (agent_of j) ≡ standing_at c (agent_of j) = standing_at_tick p held c (agent_of j) there ∙ other_stays p held c (agent_of j) still in
            ap (λ n. nat_le lacks.awaited.count n) (ap (λ (s : Standing). s.count) (subst (λ a. standing_at after a ≡ standing_at c a) here same)) ∙ lacks.is_unmet.unmet
        unmet_by (inr unreached) =
            let few : count_at after lacks.awaited.agent < lacks.awaited.count = elim (and_cases (list_of (record { agent = agent_of j; count = count_at after (agent_of j) }) == j) (nat_le (least_of m.least j) (count_at after (agent_of j))) unreached) [
              | inl other ↦ other_count other
              | inr late ↦ early late
            ] in
            lt-leb lacks.awaited.count (count_at after lacks.awaited.agent) few

    ready_or_done : (r : Bool) → is_ready p c k ≡ r → is_left p c k ≡ r → is_ready p after k ≡ r
    ready_or_done true ready left = ready_lasts p held c runs.agents k same_count ready
    ready_or_done false unready done =
        elim (cases_lt (count_at after k) (moves p k)) [
          | inl lt ↦ absurd (true≢false (sym (lt-ltb _ _ lt) ∙ (left_as_before ∙ done)))
          | inr le ↦ no_action_left p after k le
        ]

    home_still : (h : Option ℕ) → is_on woken_lists h ≡ false → IsHome p c m.least k h → IsHome p after m.least k h × (is_ready p after k ≡ is_ready p c k)
    home_still None off home =
        let still = ready_or_done (is_ready p c k) refl (sym home) in
        (still ∙ (home ∙ sym left_as_before), still)
    home_still (Some j) off home =
        let least = least_of m.least j in
        let there = lacked_agent p c least k j home runs.well_formed in
        let rests : (is_moving p held c (agent_of j) ≡ false) ⊎ (is_reached moved j ≡ false) = elim (and_cases (flag_of (moving_flags p held c) (agent_of j)) (is_reached moved j) off) [
          | inl still ↦ inl (sym (flag_is_moving (agent_of j) there) ∙ still)
          | inr unreached ↦ inr unreached
        ] in
        let lacks = lacks_still j rests home in
        (lacks, unready_if_lacking p after least k j lacks ∙ sym (unready_if_lacking p c least k j home))

  module _ (woken : MachineState) (wakes : IsWoken woken_lists moved woken) where
    long_moving : length (moving_flags p held c) ≡ length p
    long_moving = length-map-range_with_len (is_moving p held c) 0 (length p)

    configuration_woken : woken.configuration ≡ after
    configuration_woken = ap (λ (w : MachineState). w.configuration) wakes.same

    rows_woken : HasRows (length p) woken
    rows_woken = record {
      marks = ap (λ (w : MachineState). length w.marks) wakes.same ∙ long_after p held m;
      ready = ap (λ (w : MachineState). length w.ready) wakes.same ∙ runs.rows.ready;
      left = ap (λ (w : MachineState). length w.left) wakes.same ∙ runs.rows.left;
      due = wakes.long_due ∙ long_moving;
      lists = ap (λ (w : MachineState). w.waiting.lists) wakes.same ∙ runs.rows.lists;
      homes = wakes.long_homes ∙ runs.rows.homes;
      least = wakes.long_least ∙ runs.rows.least;
    }

    -- each has read what it is to have read
    read_woken : (k : ℕ) → k < length p → IsRead p woken.configuration k (mark_of woken.marks k)
    read_woken k agent = rw wakes.same (read_after p held m runs k agent)

    -- who has an action left is flagged so
    flagged_woken : (k : ℕ) → k < length p → is_left p woken.configuration k ≡ true → flag_of woken.left k ≡ true
    flagged_woken k agent left =
        let was : is_left p after k ≡ true = sym (ap (λ rows. is_left p rows k) configuration_woken) ∙ left in
        ap (λ (w : MachineState). flag_of w.left k) wakes.same ∙ flagged_after p held m runs k agent was

    -- who is due moved, or stood in the list of one that moves
    due_is : (k : ℕ) → k < length p → flag_of woken.due k ≡ (is_moving p held c k || is_on woken_lists (home_of m.waiting.homes k))
    due_is k agent =
        wakes.due k (omega (arith, long_moving))
        ∙ ap (λ b. b || is_on woken_lists (home_of m.waiting.homes k)) (flag_is_moving k agent)

    freed : (h : Option ℕ) (k : ℕ) → IsHome p c m.least k h → (is_moving p held c k || is_on woken_lists h) ≡ true → if_not_on woken_lists h ≡ None
    freed None k home is = refl
    freed (Some j) k home is = go (woken_lists j) (rw (unready_if_lacking p c (least_of m.least j) k j home) at is)
      where
        go : (b : Bool) → b ≡ true → cond b None (Some j) ≡ None
        go true e = refl
        go false e = absurd cc

    nowhere_if_due : (k : ℕ) → flag_of woken.due k ≡ true → home_of woken.waiting.homes k ≡ None
    nowhere_if_due k due =
        elim (cases_lt k (length p)) [
          | inl agent ↦ wakes.homes k ∙ freed (home_of m.waiting.homes k) k (runs.judged k agent).home (sym (due_is k agent) ∙ due)
          | inr past ↦ absurd (true≢false (sym due ∙ get_or_past woken.due k false (let rows = rows_woken.due in omega arith)))
        ]

    -- ---- how many were looked at

    moved_counted : moved_in p held c ≤ length (filter (flag_of woken.due) (indices (length p)))
    moved_counted = fewer_pass (is_moving p held c) (flag_of woken.due) (length p) (λ k agent moves. due_is k agent ∙ rw moves refl)

    due_counted : length (filter (flag_of woken.due) (indices (length p))) ≤ moved_in p held c + awaiting_in p held c
    due_counted =
        either_passes (flag_of woken.due) (is_moving p held c) (λ k. not (is_ready p c k) && awaits_moving p held c k) (length p)
        (λ k agent due. was (home_of m.waiting.homes k) k (is_moving p held c k) refl (runs.judged k agent).home (sym (due_is k agent) ∙ due))
      where
        was : (h : Option ℕ) (k : ℕ) (r : Bool) → is_moving p held c k ≡ r → IsHome p c m.least k h → (is_moving p held c k || is_on woken_lists h) ≡ true
            → (is_moving p held c k ≡ true) ⊎ ((not (is_ready p c k) && awaits_moving p held c k) ≡ true)
        was h k true e home is = inl e
        was None k false e home is = absurd (true≢false (sym is ∙ rw e refl))
        was (Some j) k false e home is =
            let least = least_of m.least j in
            let there = lacked_agent p c least k j home runs.well_formed in
            let woken_list : woken_lists j ≡ true = rw e at is in
            let flag : flag_of (moving_flags p held c) (agent_of j) ≡ true = (and_parts (flag_of (moving_flags p held c) (agent_of j)) (is_reached moved j) woken_list).0 in
            inr (rw (unready_if_lacking p c least k j home) (awaits_if_lacking p c least k j home held (sym (flag_is_moving (agent_of j) there) ∙ flag)))

    -- the agents that are due can be judged
    pub can_judge_woken : CanJudge p woken
    can_judge_woken = record {
      well_formed = runs.well_formed;
      agents = ap length configuration_woken ∙ length-tick p held c;
      rows = rows_woken;
      read = read_woken;
      flagged = flagged_woken;
      nowhere = nowhere_if_due;
    }

    module _ (new : MachineState) (count : ℕ) (judges : HasJudged p woken new count) where
      configuration_new : new.configuration ≡ after
      configuration_new = ap (λ (w : MachineState). w.configuration) judges.same ∙ configuration_woken

      undisturbed : (k : ℕ) → k < length p → flag_of woken.due k ≡ false → IsJudged p new k
      undisturbed k agent undue =
          let calm = or_parts (is_moving p held c k) (is_on woken_lists (home_of m.waiting.homes k)) (sym (due_is k agent) ∙ undue) in
          let still = home_still k agent calm.0 (home_of m.waiting.homes k) calm.1 (runs.judged k agent).home in
          let kept = judges.others k undue in
          let here = runs.judged k agent in
          let mark : mark_of new.marks k ≡ mark_of (marks_after p held m) k = kept.mark ∙ ap (λ (w : MachineState). mark_of w.marks k) wakes.same in
          let unmoved : mark_of new.marks k ≡ mark_of m.marks k = mark ∙ mark_unmoved p held m k agent calm.0 in
          record {
            read = rw (configuration_new, mark) (read_after p held m runs k agent);
            all = rw (configuration_new, unmoved, still.1, same_count k agent calm.0) here.all;
            ready = kept.ready ∙ (ap (λ (w : MachineState). flag_of w.ready k) wakes.same ∙ (here.ready ∙ (sym still.1 ∙ ap (λ c. is_ready p c k) (sym configuration_new))));
            left = kept.left ∙ (ap (λ (w : MachineState). flag_of w.left k) wakes.same ∙ (here.left ∙ (sym (left_as_before k agent calm.0) ∙ ap (λ c. is_left p c k) (sym configuration_new))));
            home = rw (configuration_new, kept.home, wakes.homes k) (not_freed (home_of m.waiting.homes k) calm.1 kept.least still.0);
          }
        where
          not_freed : (h : Option ℕ) → is_on woken_lists h ≡ false → ((j : ℕ) → least_of new.least j ≤ least_of woken.least j) → IsHome p after m.least k h
              → IsHome p after new.least k (if_not_on woken_lists h)
          not_freed None off lower home = home
          not_freed (Some j) off lower home =
              let late : least_of new.least j ≤ home.awaited.count = omega (arith, lower j, wakes.least j off, home.late) in
              rw off (record { awaited = home.awaited; is_unmet = home.is_unmet; list = home.list; late = late })

      runs_after : Runs p new
      runs_after = record {
        well_formed = runs.well_formed;
        agents = ap length configuration_new ∙ length-tick p held c;
        flags = ap (λ (w : MachineState). length w.moving) (judges.same ∙ ap (λ (w : MachineState). record w { ready = new.ready; left = new.left; marks = new.marks; waiting = new.waiting; least = new.least }) wakes.same)
            ∙ length-map-range_with_len (is_moving p held c) 0 (length p);
        rows = judges.rows;
        judged = λ k agent.
            let here : IsJudged p new k = elim (cases_Bool (flag_of woken.due k)) [ inl due ↦ judges.judged k agent due | inr undue ↦ undisturbed k agent undue ] in
            record { read = here.read; all = here.all; ready = here.ready; left = here.left; home = here.home };
      }

      pub settled : IsCarriedOut p held m new count
      settled = record {
        runs = runs_after;
        configuration = configuration_new;
        moving = ap (λ (w : MachineState). w.moving) (judges.same ∙ ap (λ (w : MachineState). record w { ready = new.ready; left = new.left; marks = new.marks; waiting = new.waiting; least = new.least }) wakes.same);
        looked = ap (λ (w : MachineState). w.looked) (judges.same ∙ ap (λ (w : MachineState). record w { ready = new.ready; left = new.left; marks = new.marks; waiting = new.waiting; least = new.least }) wakes.same);
        least = omega (arith, judges.count, moved_counted);
        most = omega (arith, judges.count, due_counted);
        few = let few = counted_le (flag_of woken.due) (length p) in omega (arith, judges.count);
      }

-- a machine runs its program, however many agents have been looked at
pub runs_looked : (p : Program) (m : MachineState) (looked : ℕ) → Runs p m → Runs p (record m { looked = looked })
runs_looked p m looked runs = record {
  well_formed = runs.well_formed;
  agents = runs.agents;
  flags = runs.flags;
  rows = record { marks = runs.rows.marks; ready = runs.rows.ready; left = runs.rows.left; due = runs.rows.due; lists = runs.rows.lists; homes = runs.rows.homes; least = runs.rows.least };
  judged = λ k agent. let here = runs.judged k agent in record { read = here.read; all = here.all; ready = here.ready; left = here.left; home = here.home };
}

-- the count of agents that were looked at, where so many were due
pub looked_at : (r q due before after : ℕ) → r ≤ due → due ≤ r + q → LooksAt due 0 before after → LooksAt r q before after
looked_at r q due before after le ge h = record {
  kept = h.kept;
  least = λ lt. omega (arith, h.least lt);
  most = omega (arith, h.most);
}
