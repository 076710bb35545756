-- How progress goes on: agents are told more, and carry out more.
use Rattle.fleet_dispatch.proofs.Cited.{◌≡◌, ◌≢◌, ℕ, zero, suc, ◌+◌, ◌<◌, ◌≤◌, Bool, true, false, not, List, [], ◌∷◌, length, get_or, set, take, All, Option, Some, None, Contains, refl, ap, sym, ◌∙◌, subst, arith, inl, inr, eq-eqb, leb-true, get_or-set_same, get_or-set_other, length-set, nat_lt, nat_le, min, is_some, IfSome, IfNone, slice_get, MatchOption, MatchBool, ◌==◌, option_map_or, count_by, cases_lt, cases_eq, ne_eqb, le-leb, lt-leb, leb-false, ltb-false, ltb-true, ext_get_or, take_more, take_all, All-append, slice_get-get_or, get_or-map-range_with_len, length-map-range_with_len, length-range_with_len, get_or-range_with_len, list_all_at, list_all-from_AllPass, Place, Await, Program, moves, path, awaits_of, indices, AreNoneFrom, IsNextFrom, flag_of, home_of, fewer, Reported, Words, Counts, count_of, said_of, told_to, told_at, IsOrdered, AreOrdered, IsFirstUnordered, is_all_done, ProgressState, AreDone, MayBeTold, IsSettled, HasRows, LeadsBut, Leads, AreCounts, AreTold, IsWoken, is_woken}
use Rattle.fleet_dispatch.proofs.Telling.{CannotBeTold, told_is}

-- who is led has carried out no more than it is to
pub led_counts : (p : Program) (free : ℕ → Bool) (k : ℕ) (s : ProgressState) → LeadsBut free p k s → AreCounts p s.done
led_counts p free k s l = record {
  agents = l.rows.done;
  within = λ i a. let m = l.told i a in let from = m.from in let within = m.within in omega arith;
}

-- ---- an agent that is told all it can be

module _ (p : Program) (k : ℕ) (s : ProgressState) (leads : Leads p k s) where
  settled_cannot : (i : ℕ) → i < length p → (home : Option ℕ) → IsSettled p k s i home → CannotBeTold p k s.done i (count_of s.told i)
  settled_cannot i a None (inl all) = record { stop = λ left room done. absurd (omega arith) }
  settled_cannot i a None (inr full) = record { stop = λ left room done. absurd (omega arith) }
  settled_cannot i a (Some j) lacks = record {
    stop = λ left room done.
        let met : lacks.awaited.count ≤ count_of s.done lacks.awaited.agent = done lacks.awaited lacks.is_await in
        let at : count_of s.done lacks.awaited.agent ≡ count_of s.done j = ap (count_of s.done) lacks.agent in
        absurd (omega (arith, lacks.unmet));
  }

  pub told_all_of : (i : ℕ) → i < length p → flag_of s.due i ≡ false → count_of s.told i ≡ told_to p k s.done i
  told_all_of i a none = sym (told_is p k s.done i (count_of s.told i) (leads.told i a) (settled_cannot i a (home_of s.waiting.homes i) (leads.settled i a none refl)))

  pub all_told : ((i : ℕ) → i < length p → flag_of s.due i ≡ false) → s.told ≡ told_at p k s.done
  all_told none =
      ext_get_or 0 s.told (told_at p k s.done) (leads.rows.told ∙ sym (length-map-range_with_len (told_to p k s.done) 0 (length p)))
      (λ i l. let a : i < length p = omega (arith, leads.rows.told) in
      told_all_of i a (none i a) ∙ sym (get_or-map-range_with_len (told_to p k s.done) 0 (length p) i i 0 a (omega arith)))

-- ---- one agent is told more

-- agent i is told n actions now, and is not looked at any more
pub record IsAgentTold (p : Program) (s s' : ProgressState) (i n : ℕ) : Type 0 where
  pub done : s'.done ≡ s.done
  pub left : s'.left ≡ s.left
  pub due : s'.due ≡ set s.due i false
  pub lists : s'.waiting.lists ≡ s.waiting.lists
  pub homes : length s'.waiting.homes ≡ length s.waiting.homes
  pub others : (j : ℕ) → j ≢ i → home_of s'.waiting.homes j ≡ home_of s.waiting.homes j
  pub long_told : length s'.told ≡ length s.told
  pub told_here : count_of s'.told i ≡ n
  pub told_there : (j : ℕ) → j ≢ i → count_of s'.told j ≡ count_of s.told j
  pub long_places : length s'.places ≡ length s.places
  pub place_here : (q : Place) → get_or s'.places i q ≡ path p i n
  pub places_there : (j : ℕ) (q : Place) → j ≢ i → get_or s'.places j q ≡ get_or s.places j q

-- nothing yet
pub not_yet_told : (p : Program) (k i : ℕ) (s s' : ProgressState) → Leads p k s → i < length p → s' ≡ record s { due = set s.due i false } → IsAgentTold p s s' i (count_of s.told i)
not_yet_told p k i s s' leads agent same = subst (λ (x : ProgressState). IsAgentTold p s x i (count_of s.told i)) (sym same) (record {
  done = refl;
  left = refl;
  due = refl;
  lists = refl;
  homes = refl;
  others = λ j ne. refl;
  long_told = refl;
  told_here = refl;
  told_there = λ j ne. refl;
  long_places = refl;
  place_here = λ q. leads.places i q agent;
  places_there = λ j q ne. refl;
})

-- one more
pub one_told : (p : Program) (i n : ℕ) (s s' s'' : ProgressState) → IsAgentTold p s s' i n → i < length s.told → i < length s.places
    → s'' ≡ record s' { told = set s'.told i (n + 1); places = set s'.places i (path p i (n + 1)) } → IsAgentTold p s s'' i (n + 1)
one_told p i n s s' s'' before inside placed same = subst (λ (x : ProgressState). IsAgentTold p s x i (n + 1)) (sym same) (record {
  done = before.done;
  left = before.left;
  due = before.due;
  lists = before.lists;
  homes = before.homes;
  others = before.others;
  long_told = length-set s'.told i (n + 1) ∙ before.long_told;
  told_here = get_or-set_same s'.told i (n + 1) 0 (omega (arith, before.long_told));
  told_there = λ j ne. get_or-set_other s'.told i j (n + 1) 0 ne ∙ before.told_there j ne;
  long_places = length-set s'.places i (path p i (n + 1)) ∙ before.long_places;
  place_here = λ q. get_or-set_same s'.places i (path p i (n + 1)) q (omega (arith, before.long_places));
  places_there = λ j q ne. get_or-set_other s'.places i j (path p i (n + 1)) q ne ∙ before.places_there j q ne;
})

-- it waits now
pub told_waits : (p : Program) (i n b : ℕ) (s s' s'' : ProgressState) → IsAgentTold p s s' i n
    → s'' ≡ record s' { waiting = record s'.waiting { homes = set s'.waiting.homes i (Some b) } } → IsAgentTold p s s'' i n
told_waits p i n b s s' s'' before same = subst (λ (x : ProgressState). IsAgentTold p s x i n) (sym same) (record {
  done = before.done;
  left = before.left;
  due = before.due;
  lists = before.lists;
  homes = length-set s'.waiting.homes i (Some b) ∙ before.homes;
  others = λ j ne. get_or-set_other s'.waiting.homes i j (Some b) None ne ∙ before.others j ne;
  long_told = before.long_told;
  told_here = before.told_here;
  told_there = before.told_there;
  long_places = before.long_places;
  place_here = before.place_here;
  places_there = before.places_there;
})

module _ (p : Program) (k i n : ℕ) (s s' : ProgressState) (leads : Leads p k s) (agent : i < length p) (now : IsAgentTold p s s' i n) where
  abbrev told_here : count_of s'.told i ≡ n
  told_here = now.told_here

  abbrev told_there : (j : ℕ) → j ≢ i → count_of s'.told j ≡ count_of s.told j
  told_there = now.told_there

  settled_there : (j : ℕ) → j ≢ i → (home : Option ℕ) → IsSettled p k s j home → IsSettled p k s' j home
  settled_there j ne None (inl all) = inl (omega (arith, told_there j ne))
  settled_there j ne None (inr full) = inr (omega (arith, told_there j ne, ap (λ xs. count_of xs j) now.done))
  settled_there j ne (Some a) lacks = record {
    awaited = lacks.awaited;
    is_await = subst (λ m. Contains (awaits_of p j (m + 1)) lacks.awaited) (sym (told_there j ne)) lacks.is_await;
    agent = lacks.agent;
    unmet = omega (arith, lacks.unmet, ap (λ xs. count_of xs a) now.done);
  }

  pub agent_told : MayBeTold p k s.done i n → IsSettled p k s' i (home_of s'.waiting.homes i) → Leads p k s'
  agent_told may settled = record {
    rows = record {
      done = ap length now.done ∙ leads.rows.done;
      told = now.long_told ∙ leads.rows.told;
      places = now.long_places ∙ leads.rows.places;
      homes = now.homes ∙ leads.rows.homes;
      lists = now.lists ∙ leads.rows.lists;
      due = ap length now.due ∙ (length-set s.due i false ∙ leads.rows.due);
      left = ap length now.left ∙ leads.rows.left;
    };
    told = λ j a. elim (cases_eq j i) [
      | inl same ↦ subst (λ (counts : Counts). MayBeTold p k counts j (count_of s'.told j)) (sym now.done)
          (subst (λ x. MayBeTold p k s.done x (count_of s'.told x)) (sym same) (subst (λ m. MayBeTold p k s.done i m) (sym told_here) may))
      | inr other ↦ subst (λ (counts : Counts). MayBeTold p k counts j (count_of s'.told j)) (sym now.done)
          (subst (λ m. MayBeTold p k s.done j m) (sym (told_there j other)) (leads.told j a))
    ];
    places = λ j q a. elim (cases_eq j i) [
      | inl same ↦ subst (λ x. get_or s'.places x q ≡ path p x (count_of s'.told x)) (sym same) (now.place_here q ∙ ap (path p i) (sym told_here))
      | inr other ↦ now.places_there j q other ∙ leads.places j q a ∙ ap (path p j) (sym (told_there j other))
    ];
    nowhere = λ j a is. elim (cases_eq j i) [
      | inl same ↦ absurd (
          let l : i < length s.due = omega (arith, leads.rows.due) in
          let off : flag_of s'.due i ≡ false = ap (λ xs. flag_of xs i) now.due ∙ get_or-set_same s.due i false false l in
          let on : flag_of s'.due i ≡ true = ap (flag_of s'.due) (sym same) ∙ is in
          cc)
      | inr other ↦ now.others j other ∙ leads.nowhere j a (sym (ap (λ xs. flag_of xs j) now.due ∙ get_or-set_other s.due i j false false other) ∙ is)
    ];
    settled = λ j a is free. elim (cases_eq j i) [
      | inl same ↦ subst (λ x. IsSettled p k s' x (home_of s'.waiting.homes x)) (sym same) settled
      | inr other ↦ subst (IsSettled p k s' j) (sym (now.others j other))
          (settled_there j other _ (leads.settled j a (sym (ap (λ xs. flag_of xs j) now.due ∙ get_or-set_other s.due i j false false other) ∙ is) refl))
    ];
    left = λ j a. ap (λ xs. flag_of xs j) now.left ∙ leads.left j a ∙ ap (λ xs. nat_lt (count_of xs j) (moves p j)) (sym now.done);
  }

-- what an agent awaits that is told no more
pub lacks_now : (p : Program) (k i b n : ℕ) (s : ProgressState) (w : Await) → count_of s.told i ≡ n → Contains (awaits_of p i (n + 1)) w → w.agent ≡ b → count_of s.done w.agent < w.count
    → home_of s.waiting.homes i ≡ Some b → IsSettled p k s i (home_of s.waiting.homes i)
lacks_now p k i b n s w here mem agent unmet home = subst (IsSettled p k s i) (sym home) (record {
  awaited = w;
  is_await = subst (λ m. Contains (awaits_of p i (m + 1)) w) (sym here) mem;
  agent = agent;
  unmet = omega (arith, unmet, ap (count_of s.done) agent);
})

-- or is told all it can be
pub full_now : (p : Program) (k i : ℕ) (s : ProgressState) → home_of s.waiting.homes i ≡ None → min (moves p i) (count_of s.done i + k) ≤ count_of s.told i
    → IsSettled p k s i (home_of s.waiting.homes i)
full_now p k i s home le = subst (IsSettled p k s i) (sym home) (elim (cases_lt (count_of s.told i) (moves p i)) [
  | inr all ↦ inl all
  | inl less ↦ inr (omega arith)
])

-- ---- those that waited for an agent are looked at

module _ (p : Program) (k i j : ℕ) (s s' : ProgressState) (leads : LeadsBut (is_woken s.waiting.homes i) p k s) (agent : j < length p)
    (same : s' ≡ record s { waiting = record s.waiting { homes = set s.waiting.homes j None }; due = set s.due j true }) where
  abbrev homes : List (Option ℕ)
  homes = set s.waiting.homes j None

  abbrev then : ProgressState
  then = record s { waiting = record s.waiting { homes = set s.waiting.homes j None }; due = set s.due j true }

  pub one_woken : LeadsBut (is_woken s'.waiting.homes i) p k s'
  one_woken = subst (λ (x : ProgressState). LeadsBut (is_woken x.waiting.homes i) p k x) (sym same) (record {
    rows = record {
      done = leads.rows.done;
      told = leads.rows.told;
      places = leads.rows.places;
      homes = length-set s.waiting.homes j None ∙ leads.rows.homes;
      lists = leads.rows.lists;
      due = length-set s.due j true ∙ leads.rows.due;
      left = leads.rows.left;
    };
    told = leads.told;
    places = leads.places;
    nowhere = λ m a is. elim (cases_eq m j) [
      | inl e ↦ (let l : j < length s.waiting.homes = omega (arith, leads.rows.homes) in ap (home_of homes) e ∙ get_or-set_same s.waiting.homes j None None l)
      | inr ne ↦ get_or-set_other s.waiting.homes j m None None ne ∙ leads.nowhere m a (sym (get_or-set_other s.due j m true false ne) ∙ is)
    ];
    settled = λ m a is free. elim (cases_eq m j) [
      | inl e ↦ absurd (
          let l : j < length s.due = omega (arith, leads.rows.due) in
          let on : flag_of (set s.due j true) j ≡ true = get_or-set_same s.due j true false l in
          let off : flag_of (set s.due j true) j ≡ false = ap (flag_of (set s.due j true)) (sym e) ∙ is in
          cc)
      | inr ne ↦ (
          let here : home_of homes m ≡ home_of s.waiting.homes m = get_or-set_other s.waiting.homes j m None None ne in
          let unwoken : is_woken s.waiting.homes i m ≡ false = ap (λ (o : Option ℕ). option_map_or (λ a. a == i) o (m == i)) (sym here) ∙ free in
          subst (λ o. IsSettled p k then m o) (sym here) (kept m (home_of s.waiting.homes m) (leads.settled m a (sym (get_or-set_other s.due j m true false ne) ∙ is) unwoken)))
    ];
    left = leads.left;
  })
    where
      kept : (m : ℕ) (home : Option ℕ) → IsSettled p k s m home → IsSettled p k (record s { waiting = record s.waiting { homes = set s.waiting.homes j None }; due = set s.due j true }) m home
      kept m None h = h
      kept m (Some a) h = record { awaited = h.awaited; is_await = h.is_await; agent = h.agent; unmet = h.unmet }

-- when nobody waits for agent i any more, and it is looked at unless it waits
module _ (p : Program) (k i : ℕ) (s s' : ProgressState) (leads : LeadsBut (is_woken s.waiting.homes i) p k s)
    (none : (j : ℕ) → home_of s.waiting.homes j ≢ Some i) where
  unwoken : (j : ℕ) → (home : Option ℕ) → home_of s.waiting.homes j ≡ home → (home ≡ None → j ≢ i) → is_woken s.waiting.homes i j ≡ false
  unwoken j None e ne = let other : j ≢ i = ne refl in rw e (ne_eqb j i other)
  unwoken j (Some a) e ne = rw e (ne_eqb a i (λ same. none j (e ∙ ap (λ (x : ℕ). Some x) same)))

  pub waits_settled : (b : ℕ) → home_of s.waiting.homes i ≡ Some b → s' ≡ s → Leads p k s'
  waits_settled b waits same = subst (Leads p k) (sym same) (record {
    rows = leads.rows;
    told = leads.told;
    places = leads.places;
    nowhere = leads.nowhere;
    settled = λ j a is free. leads.settled j a is (unwoken j (home_of s.waiting.homes j) refl (λ e ji. absurd (let at : home_of s.waiting.homes j ≡ home_of s.waiting.homes i = ap (home_of s.waiting.homes) ji in cc)));
    left = leads.left;
  })

  pub looked_settled : i < length p → home_of s.waiting.homes i ≡ None → s' ≡ record s { due = set s.due i true } → Leads p k s'
  looked_settled l nowhere same = subst (Leads p k) (sym same) (record {
    rows = record {
      done = leads.rows.done;
      told = leads.rows.told;
      places = leads.rows.places;
      homes = leads.rows.homes;
      lists = leads.rows.lists;
      due = length-set s.due i true ∙ leads.rows.due;
      left = leads.rows.left;
    };
    told = leads.told;
    places = leads.places;
    nowhere = λ j a is. elim (cases_eq j i) [
      | inl e ↦ ap (home_of s.waiting.homes) e ∙ nowhere
      | inr ne ↦ leads.nowhere j a (sym (get_or-set_other s.due i j true false ne) ∙ is)
    ];
    settled = λ j a is free. elim (cases_eq j i) [
      | inl e ↦ absurd (
          let inside : i < length s.due = omega (arith, leads.rows.due) in
          let on : flag_of (set s.due i true) i ≡ true = get_or-set_same s.due i true false inside in
          let off : flag_of (set s.due i true) i ≡ false = ap (flag_of (set s.due i true)) (sym e) ∙ is in
          cc)
      | inr ne ↦ kept j (home_of s.waiting.homes j)
          (leads.settled j a (sym (get_or-set_other s.due i j true false ne) ∙ is) (unwoken j (home_of s.waiting.homes j) refl (λ e. ne)))
    ];
    left = leads.left;
  })
    where
      kept : (m : ℕ) (home : Option ℕ) → IsSettled p k s m home → IsSettled p k (record s { due = set s.due i true }) m home
      kept m None h = h
      kept m (Some a) h = record { awaited = h.awaited; is_await = h.is_await; agent = h.agent; unmet = h.unmet }

-- ---- an agent has carried out more

module _ (p : Program) (k i n : ℕ) (s s' : ProgressState) (leads : Leads p k s) (agent : i < length p) (more : count_of s.done i < n) (told : n ≤ count_of s.told i)
    (same : s' ≡ record s { done = set s.done i n; left = set s.left i (nat_lt n (moves p i)) }) where
  abbrev done : Counts
  done = set s.done i n

  done_here : count_of done i ≡ n
  done_here = get_or-set_same s.done i n 0 (omega (arith, leads.rows.done))

  done_there : (j : ℕ) → j ≢ i → count_of done j ≡ count_of s.done j
  done_there j ne = get_or-set_other s.done i j n 0 ne

  done_grows : (j : ℕ) → count_of s.done j ≤ count_of done j
  done_grows j = elim (cases_eq j i) [
    | inl e ↦ omega (arith, ap (count_of s.done) e, ap (count_of done) e, done_here)
    | inr ne ↦ omega (arith, done_there j ne)
  ]

  met_more : (j m : ℕ) → AreDone p s.done j m → AreDone p done j m
  met_more j m met w h = omega (arith, met w h, done_grows w.agent)

  may_more : (j : ℕ) → j < length p → MayBeTold p k done j (count_of s.told j)
  may_more j a =
      let m = leads.told j a in
      let from = m.from in
      let within = m.within in
      let few = m.few in
      let grows = done_grows j in
      record {
        from = elim (cases_eq j i) [
          | inl e ↦ omega (arith, ap (count_of done) e, ap (count_of s.told) e, done_here)
          | inr ne ↦ omega (arith, done_there j ne)
        ];
        within = within;
        few = omega arith;
        met = λ x low high. met_more j x (m.met x (omega arith) high);
      }

  settled_more : (j : ℕ) (home : Option ℕ) → (home ≡ None → j ≢ i) → (home ≢ Some i) → IsSettled p k s j home
      → IsSettled p k (record s { done = set s.done i n; left = set s.left i (nat_lt n (moves p i)) }) j home
  settled_more j None other away (inl all) = inl all
  settled_more j None other away (inr full) = inr (let ne : j ≢ i = other refl in omega (arith, done_there j ne))
  settled_more j (Some a) other away lacks =
      let ne : a ≢ i = λ e. away (ap (λ (x : ℕ). Some x) e) in
      record { awaited = lacks.awaited; is_await = lacks.is_await; agent = lacks.agent; unmet = omega (arith, lacks.unmet, done_there a ne) }

  pub raised_leads : LeadsBut (is_woken s'.waiting.homes i) p k s'
  raised_leads = subst (λ (x : ProgressState). LeadsBut (is_woken x.waiting.homes i) p k x) (sym same) (record {
    rows = record {
      done = length-set s.done i n ∙ leads.rows.done;
      told = leads.rows.told;
      places = leads.rows.places;
      homes = leads.rows.homes;
      lists = leads.rows.lists;
      due = leads.rows.due;
      left = length-set s.left i (nat_lt n (moves p i)) ∙ leads.rows.left;
    };
    told = may_more;
    places = leads.places;
    nowhere = leads.nowhere;
    settled = λ j a is free. settled_more j (home_of s.waiting.homes j)
        (λ none same. absurd (let woken : is_woken s.waiting.homes i j ≡ true = rw none (eq-eqb j i same) in cc))
        (λ home. absurd (let woken : is_woken s.waiting.homes i j ≡ true = rw home (eq-eqb i i refl) in cc))
        (leads.settled j a is refl);
    left = λ j a. elim (cases_eq j i) [
      | inl e ↦ (
          let l : i < length s.left = omega (arith, leads.rows.left) in
          ap (flag_of (set s.left i (nat_lt n (moves p i)))) e ∙ get_or-set_same s.left i (nat_lt n (moves p i)) false l
          ∙ ap (λ x. nat_lt x (moves p i)) (sym done_here) ∙ ap (λ x. nat_lt (count_of done x) (moves p x)) (sym e))
      | inr ne ↦ get_or-set_other s.left i j (nat_lt n (moves p i)) false ne ∙ leads.left j a ∙ ap (λ x. nat_lt x (moves p j)) (sym (done_there j ne))
    ];
  })

-- ---- what is read of progress

-- no action is left
module _ (p : Program) (k : ℕ) (s : ProgressState) (leads : Leads p k s) where
  all_finished : AreNoneFrom s.left 0 → is_all_done p s.done ≡ true
  all_finished none = list_all-from_AllPass (λ i. nat_le (moves p i) (count_of s.done i)) (indices (length p))
      (λ j d l.
      let a : j < length p = omega (arith, length-range_with_len 0 (length p)) in
      let at : get_or (indices (length p)) j d ≡ j = get_or-range_with_len 0 (length p) j d a ∙ omega arith in
      let off : nat_lt (count_of s.done j) (moves p j) ≡ false = sym (leads.left j a) ∙ none j (omega arith) in
      subst (λ x. nat_le (moves p x) (count_of s.done x) ≡ true) (sym at) (le-leb _ _ (ltb-false _ _ off)))

  not_finished : (i : ℕ) → IsNextFrom s.left 0 i → is_all_done p s.done ≡ false
  not_finished i next =
      let a : i < length p = omega (arith, next.agent, leads.rows.left) in
      let on : nat_lt (count_of s.done i) (moves p i) ≡ true = sym (leads.left i a) ∙ next.member in
      let less : count_of s.done i < moves p i = ltb-true _ _ on in
      let at : get_or (indices (length p)) i 0 ≡ i = get_or-range_with_len 0 (length p) i 0 a ∙ omega arith in
      list_all_at (λ j. nat_le (moves p j) (count_of s.done j)) (indices (length p)) i 0 (omega (arith, length-range_with_len 0 (length p)))
      (subst (λ x. nat_le (moves p x) (count_of s.done x) ≡ false) (sym at) (lt-leb _ _ less))

  pub finished_is : (first : Option ℕ) (now : Bool) → MatchOption first (AreNoneFrom s.left 0) (IsNextFrom s.left 0) → is_some first ≡ not now → now ≡ is_all_done p s.done
  finished_is None true none is = sym (all_finished none)
  finished_is None false none is = absurd cc
  finished_is (Some i) false next is = sym (not_finished i next)
  finished_is (Some i) true next is = absurd cc

pub told_of_all : (p : Program) (k : ℕ) (told done : Counts) (i : ℕ) → told ≡ told_at p k done → i < length p → count_of told i ≡ told_to p k done i
told_of_all p k told done i same a = ap (λ (c : Counts). count_of c i) same ∙ get_or-map-range_with_len (told_to p k done) 0 (length p) i i 0 a (omega arith)

-- whether a word is ordered
pub ordered_if : (p : Program) (k : ℕ) (done : Counts) (w : Reported) (said told : ℕ) → w.agent < length p → said ≡ said_of done w → told ≡ told_to p k done w.agent
    → MatchBool (nat_le said told) (IsOrdered p k done w) (IsOrdered p k done w → ⊥)
ordered_if p k done w said told agent is at = go (nat_le said told) refl
  where
    go : (b : Bool) → nat_le said told ≡ b → MatchBool b (IsOrdered p k done w) (IsOrdered p k done w → ⊥)
    go true e = record { agent = agent; told = omega (arith, leb-true _ _ e, is, at) }
    go false e = λ ordered. omega (arith, leb-false _ _ e, is, at, ordered.told)

-- ---- one more may be told

pub may_one_more : (p : Program) (k : ℕ) (done : Counts) (i n : ℕ) → MayBeTold p k done i n → n < moves p i → n < count_of done i + k → AreDone p done i (n + 1) → MayBeTold p k done i (n + 1)
may_one_more p k done i n may left room now =
    let from = may.from in
    record {
      from = omega arith;
      within = omega arith;
      few = omega arith;
      met = λ m low high. elim (cases_lt n m) [
        | inr before ↦ may.met m low before
        | inl last ↦ (let same : m ≡ n + 1 = omega arith in subst (AreDone p done i) (sym same) now)
      ];
    }

-- ---- a report that says what was ordered

-- what its words say may be carried out
pub words_told : (p : Program) (k : ℕ) (s : ProgressState) (words : Words) → s.told ≡ told_at p k s.done → AreOrdered p k s.done words → AreTold p s words
words_told p k s words same ordered j d l =
    let w = ordered j d l in
    let at = told_of_all p k s.told s.done (get_or words j d).agent same w.agent in
    (w.agent, omega (arith, w.told, at))

-- ---- while those that waited are looked at

module _ (p : Program) (i : ℕ) (s s' : ProgressState) where
  pub some_woken : (k : ℕ) (taken : Option ℕ) → true ≡ is_some taken → IfSome taken (IsWoken s s' i) → LeadsBut (is_woken s.waiting.homes i) p k s → LeadsBut (is_woken s'.waiting.homes i) p k s'
  some_woken k None is h leads = absurd (cc is)
  some_woken k (Some j) is h leads = one_woken p k i j s s' leads (let l = h.agent in omega (arith, leads.rows.homes)) h.woken

  pub rows_woken : (taken : Option ℕ) → true ≡ is_some taken → IfSome taken (IsWoken s s' i) → HasRows p s → HasRows p s'
  rows_woken None is h rows = absurd (cc is)
  rows_woken (Some j) is h rows = subst (HasRows p) (sym h.woken) (record {
    done = rows.done;
    told = rows.told;
    places = rows.places;
    homes = length-set s.waiting.homes j None ∙ rows.homes;
    lists = rows.lists;
    due = length-set s.due j true ∙ rows.due;
    left = rows.left;
  })

  pub same_woken : (first : ProgressState) (taken : Option ℕ) → true ≡ is_some taken → IfSome taken (IsWoken s s' i) → s ≡ record first { waiting = s.waiting; due = s.due } → s' ≡ record first { waiting = s'.waiting; due = s'.due }
  same_woken first None is h same = absurd (cc is)
  same_woken first (Some j) is h same =
      let done : s'.done ≡ first.done = ap (λ (x : ProgressState). x.done) h.woken ∙ ap (λ (x : ProgressState). x.done) same in
      let told : s'.told ≡ first.told = ap (λ (x : ProgressState). x.told) h.woken ∙ ap (λ (x : ProgressState). x.told) same in
      let places : s'.places ≡ first.places = ap (λ (x : ProgressState). x.places) h.woken ∙ ap (λ (x : ProgressState). x.places) same in
      let left : s'.left ≡ first.left = ap (λ (x : ProgressState). x.left) h.woken ∙ ap (λ (x : ProgressState). x.left) same in
      rw (sym done, sym told, sym places, sym left) refl

  pub fewer_stand : (taken : Option ℕ) → true ≡ is_some taken → IfSome taken (IsWoken s s' i) → count_by is_some s'.waiting.homes < count_by is_some s.waiting.homes
  fewer_stand None is h = absurd (cc is)
  fewer_stand (Some j) is h = omega (arith, fewer s.waiting.homes j i h.agent h.waited, ap (λ (x : ProgressState). count_by is_some x.waiting.homes) h.woken)

  -- nobody waits for it any more
  pub nobody_waits : (taken : Option ℕ) → false ≡ is_some taken → IfNone taken ((j : ℕ) → home_of s.waiting.homes j ≢ Some i) → IfNone taken (s' ≡ s) → ((j : ℕ) → home_of s'.waiting.homes j ≢ Some i) × (s' ≡ s)
  nobody_waits None is none same = (λ j e. none j (sym (ap (λ (x : ProgressState). home_of x.waiting.homes j) same) ∙ e), same)
  nobody_waits (Some j) is none same = absurd (cc is)

pub some_home : (o : Option ℕ) → is_some o ≡ true → (b : ℕ) × (o ≡ Some b)
some_home None e = absurd cc
some_home (Some b) e = (b, refl)

pub no_home : (o : Option ℕ) → is_some o ≡ false → o ≡ None
no_home None e = refl
no_home (Some b) e = absurd cc

-- ---- words, one after another

module _ (P : Reported → Type 0) (items words : Words) (i : ℕ) (d : Reported) (same : items ≡ words) where
  pub all_take_more : i < length items → All P (take i words) → P (get_or items i d) → All P (take (i + 1) words)
  all_take_more l before here = subst (λ (ws : Words). All P (take (i + 1) ws)) same (subst (All P) (sym (take_more items i d l))
      (All-append P (take i items) (get_or items i d ∷ []) (subst (λ (ws : Words). All P (take i ws)) (sym same) before) (one (get_or items i d) here)))
    where
      one : (x : Reported) → P x → All P (x ∷ [])
      one x h zero e l = h
      one x h (suc k) e l = absurd (omega arith)

  pub all_taken : length items ≤ i → All P (take i words) → All P words
  all_taken past before = subst (All P) (take_all i words (omega (arith, ap length same))) before

pub first_is_unordered : (p : Program) (k : ℕ) (done : Counts) (items words : Words) (i : ℕ) (d : Reported) → items ≡ words → i < length items → AreOrdered p k done (take i words)
    → (IsOrdered p k done (get_or items i d) → ⊥) → IsFirstUnordered p k done words (get_or items i d).agent
first_is_unordered p k done items words i d same l before unordered = record {
  place = i;
  word = get_or items i d;
  at = ap (λ (ws : Words). slice_get ws i) (sym same) ∙ slice_get-get_or items i d l;
  before = before;
  unordered = unordered;
  named = refl;
}

-- ---- from the start

pub started : (p : Program) (k : ℕ) (s : ProgressState) → AreCounts p s.done → HasRows p s → s.told ≡ s.done
    → ((i : ℕ) (q : Place) → i < length p → get_or s.places i q ≡ path p i (count_of s.done i))
    → ((i : ℕ) → home_of s.waiting.homes i ≡ None)
    → ((i : ℕ) → i < length p → flag_of s.due i ≡ true)
    → ((i : ℕ) → i < length p → flag_of s.left i ≡ nat_lt (count_of s.done i) (moves p i)) → Leads p k s
started p k s counts rows told places nowhere due left = record {
  rows = rows;
  told = λ i a.
      let same : count_of s.told i ≡ count_of s.done i = ap (λ (c : Counts). count_of c i) told in
      let within : count_of s.done i ≤ moves p i = counts.within i a in
      record {
        from = omega (arith, same);
        within = omega (arith, same);
        few = omega (arith, same);
        met = λ m low high. absurd (omega (arith, same));
      };
  places = λ i q a. places i q a ∙ ap (λ (c : Counts). path p i (count_of c i)) (sym told);
  nowhere = λ i a is. nowhere i;
  settled = λ i a is free. absurd (let on : flag_of s.due i ≡ true = due i a in cc);
  left = left;
}
