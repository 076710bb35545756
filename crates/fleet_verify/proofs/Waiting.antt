-- When an agent is ready, who waits, and for whom.
use Rattle.fleet_verify.proofs.Words.{◌≡◌, ℕ, suc, ◌<◌, ◌≤◌, Bool, true, false, length, refl, ap, arith, inl, inr, ◌+◌, List, [], ◌∷◌, ◌++◌, take, get_or, slice_index, Some, sym, ◌∙◌, subst, ◌≢◌, zero, ◌-◌, IsTrue, reverse, not, Option, None, IfSome, IfNone, unwrap_or, Contains, ◌⊎◌, slice_get, Standing, Await, Program, moves, awaits_of, IsWellFormed, AreInRange, Configuration, count_at, is_ready, Holds, is_held, run, indices, is_finished, is_stuck, ready_left, ready_met, unready_waits, take_more, map-append, get_or_append_left, get_or-append_right, length-append, get_or-reverse, length-reverse, get_or_default, slice_get-get_or, slice_get_within, get_or_from_slice_get, same_Some, cases_lt, cases_eq, lt-ltb, le-ltb, and_parts, not-true, ActionId, IsAction, DirectlyNeeds, get_or-map-range_with_len, length-map-range_with_len, IsRepeat, repeated, list_any, AreCounts, counts_of, IsReadyBy, IsToldRing, IsActionUpTo, nth, IsBlocked, IsUnmet, want_at, AreWants, next_of, need_of, WaitsBack, IsLeastBack, down_from}
use Rattle.fleet_verify.proofs.RunCounts.{tick_free, tick_stays, unfinished_one}
use Rattle.fleet_verify.proofs.Members.{same_action}
use Rattle.fleet_machine.proofs.Indices.{any_at}

-- an action is left, and each of its awaits is met
pub record IsReadyTo (p : Program) (c : Configuration) (i : ℕ) : Type 0 where
  pub left : count_at c i < moves p i
  pub met : (w : Await) → Contains (awaits_of p i (suc (count_at c i))) w → w.count ≤ count_at c w.agent

pub ready_says : (p : Program) (c : Configuration) (i : ℕ) → is_ready p c i ≡ true → IsReadyTo p c i
ready_says p c i r = record { left = ready_left p c i r; met = λ w h. ready_met p c i w r h }

pub ready_from : (p : Program) (c : Configuration) (i : ℕ) → IsReadyTo p c i → is_ready p c i ≡ true
ready_from p c i r = go (is_ready p c i) refl
  where
    go : (b : Bool) → is_ready p c i ≡ b → is_ready p c i ≡ true
    go true e = e
    go false e = let w = unready_waits p c i e r.left in absurd (omega (arith, r.met w.0 w.1, w.2))

pub record Moves (p : Program) (held : ℕ → Bool) (c d : Configuration) (i : ℕ) : Type 0 where
  pub ready : IsReadyTo p c i
  pub free : held i ≡ false
  pub count : count_at d i ≡ suc (count_at c i)

pub record StaysBehind (p : Program) (held : ℕ → Bool) (c d : Configuration) (i : ℕ) : Type 0 where
  pub why : IsReadyTo p c i → held i ≡ true
  pub count : count_at d i ≡ count_at c i

pub step : (p : Program) (holds : Holds) (t i : ℕ) → i < length p → Moves p (is_held holds t) (run p holds t) (run p holds (suc t)) i ⊎ StaysBehind p (is_held holds t) (run p holds t) (run p holds (suc t)) i
step p holds t i l = go (is_ready p (run p holds t) i) (is_held holds t i) refl refl
  where
    go : (r h : Bool) → is_ready p (run p holds t) i ≡ r → is_held holds t i ≡ h → Moves p (is_held holds t) (run p holds t) (run p holds (suc t)) i ⊎ StaysBehind p (is_held holds t) (run p holds t) (run p holds (suc t)) i
    go true false r h =
        let e = tick_free p (is_held holds t) (run p holds t) i l r h in
        inl (record { ready = ready_says p (run p holds t) i r; free = h; count = omega arith })
    go true true r h = inr (record { why = λ y. h; count = ap (λ (s : Standing). s.count) (tick_stays p (is_held holds t) (run p holds t) i l (rw (r, h))) })
    go false b r h = inr (record {
      why = λ y. absurd (let e : is_ready p (run p holds t) i ≡ true = ready_from p (run p holds t) i y in cc);
      count = ap (λ (s : Standing). s.count) (tick_stays p (is_held holds t) (run p holds t) i l (rw r));
    })

-- nobody awaits itself
pub await_count : (p : Program) → IsWellFormed p → (i n k : ℕ) (w : Await) → slice_get (awaits_of p i n) k ≡ Some w → 1 ≤ w.count
await_count p h i n k w e =
    subst (λ (x : Await). 1 ≤ x.count) (get_or_from_slice_get (awaits_of p i n) k w w e) ((h.awaits i n).counts k w (slice_get_within (awaits_of p i n) k w e))

pub await_other : (p : Program) → IsWellFormed p → (i n k : ℕ) (w : Await) → slice_get (awaits_of p i n) k ≡ Some w → w.agent ≢ i
await_other p h i n k w e =
    subst (λ x. x.agent ≢ i) (get_or_from_slice_get (awaits_of p i n) k w w e) ((h.awaits i n).others k w (slice_get_within (awaits_of p i n) k w e))

pub await_there : (p : Program) → IsWellFormed p → (i n : ℕ) (w : Await) → Contains (awaits_of p i n) w → w.agent < length p
await_there p h i n w (k, l, e) = subst (λ (x : Await). x.agent < length p) e ((h.awaits i n).agents k w l)

-- one await more that is met
pub met_more : (awaits : List Await) (counts : List ℕ) (k : ℕ) (x : Await) → slice_get awaits k ≡ Some x → x.count ≤ slice_index counts x.agent
    → ((m : ℕ) (w : Await) → m < k → slice_get awaits m ≡ Some w → w.count ≤ slice_index counts w.agent)
    → (m : ℕ) (w : Await) → m < k + 1 → slice_get awaits m ≡ Some w → w.count ≤ slice_index counts w.agent
met_more awaits counts k x here met sooner m w below at =
    elim (cases_lt m k) [
      | inl lt ↦ sooner m w lt at
      | inr ge ↦
          let last : m ≡ k = omega arith in
          let one : x ≡ w = same_Some _ _ (sym here ∙ (ap (slice_get awaits) (sym last) ∙ at)) in
          subst (λ (y : Await). y.count ≤ slice_index counts y.agent) one met
    ]

pub ready_yes : (p : Program) (counts : List ℕ) (i : ℕ) → slice_index counts i < moves p i → (k : ℕ) → length (awaits_of p i (slice_index counts i + 1)) ≤ k → ((m : ℕ) (w : Await) → m < k → slice_get (awaits_of p i (slice_index counts i + 1)) m ≡ Some w → w.count ≤ slice_index counts w.agent) → IsReadyBy p counts i
ready_yes p counts i l k n h = record {
  left = l;
  met = λ w (m, g, e). h m w (omega arith) (slice_get-get_or (awaits_of p i (slice_index counts i + 1)) m w g ∙ ap Some e);
}

-- what is found for one that waits
pub unmet_found : (p : Program) (counts : List ℕ) (i : ℕ) (o : Option Await) (d : Await) → IfSome o (IsUnmet p counts i)
    → IfNone o (slice_index counts i < moves p i → IsReadyBy p counts i) → (IsReadyBy p counts i → ⊥) → IsBlocked p counts i → IsUnmet p counts i (unwrap_or o d)
unmet_found p counts i None d some none stuck b = absurd (stuck (none b.left))
unmet_found p counts i (Some w) d some none stuck b = some

-- readiness by counts is that of the configuration
pub by_ready : (p : Program) (c : Configuration) (counts : List ℕ) → AreCounts c counts → (i : ℕ) → IsReadyBy p counts i → IsReadyTo p c i
by_ready p c counts a i r = record {
  left = (let e : slice_index counts i ≡ count_at c i = a i in let l : slice_index counts i < moves p i = r.left in omega arith);
  met = λ w k.
      let e : suc (count_at c i) ≡ slice_index counts i + 1 = (let g : slice_index counts i ≡ count_at c i = a i in omega arith) in
      let l : w.count ≤ slice_index counts w.agent = r.met w (subst (λ n. Contains (awaits_of p i n) w) e k) in
      let f : slice_index counts w.agent ≡ count_at c w.agent = a w.agent in
      omega arith;
}

-- the counts of one agent more
pub counts_more : (c : Configuration) (k : ℕ) (d : Standing) (counts : List ℕ) → k < length c → counts ≡ counts_of (take k c) → counts ++ (get_or c k d).count ∷ [] ≡ counts_of (take (k + 1) c)
counts_more c k d counts inside so_far =
    rw (take_more c k d inside, map-append (λ (s : Standing). s.count) (take k c) (get_or c k d ∷ []), so_far) refl

pub nth_add : {X : Type 0} (f : X → X) (m n : ℕ) (x : X) → nth f (m + n) x ≡ nth f m (nth f n x)
nth_add f zero n x = ap (λ k. nth f k x) (omega arith)
nth_add f (suc m) n x = let e : suc m + n ≡ suc (m + n) = omega arith in ap (λ k. nth f k x) e ∙ ap f (nth_add f m n x)

-- the next action of an agent
abbrev pub next_of_agent : List ℕ → ℕ → ActionId
next_of_agent counts i = record { agent = i; number = slice_index counts i + 1 }

-- what it needs, what that needs, and so on
abbrev pub nth_need_of : List ℕ → List Await → ℕ → ℕ → ActionId
nth_need_of counts wants i k = nth (need_of counts wants) k (next_of_agent counts i)

-- the trail has the needs in order, ends at the next action of an agent, and has not come back before
pub record IsWaitTrail (counts : List ℕ) (wants : List Await) (first agent : ℕ) (trail : List ActionId) : Type 0 where
  pub needs : (k : ℕ) → k < length trail → get_or trail k (next_of_agent counts first) ≡ nth_need_of counts wants first (suc k)
  pub here : nth_need_of counts wants first (length trail) ≡ next_of_agent counts agent
  pub not_back : (k : ℕ) → 1 ≤ k → k < length trail → nth_need_of counts wants first k ≢ next_of_agent counts first

module _ (p : Program) (counts : List ℕ) (wants : List Await) (range : AreInRange p) (w : AreWants p counts wants) where
  pub blocked_next : (i : ℕ) → IsBlocked p counts i → IsBlocked p counts (next_of wants i)
  blocked_next i b =
      let u = w.each i b in
      let r = range i (slice_index counts i + 1) (want_at wants i) u.awaited in
      record { agent = r.agent; left = omega (arith, u.unmet, r.last) }

  pub blocked_nth : (i k : ℕ) → IsBlocked p counts i → IsBlocked p counts (nth (next_of wants) k i)
  blocked_nth i zero b = b
  blocked_nth i (suc k) b = blocked_next (nth (next_of wants) k i) (blocked_nth i k b)

  -- some agent's waiting leads back to it
  pub some_back : (i : ℕ) → IsBlocked p counts i → (j : ℕ) × IsBlocked p counts j × WaitsBack wants (length p) j
  some_back i b = go (repeated (length p) (suc (length p)) (λ k. nth (next_of wants) k i) (omega arith) (λ k l. (blocked_nth i k b).agent))
    where
      go : IsRepeat (λ k. nth (next_of wants) k i) (suc (length p)) → (j : ℕ) × IsBlocked p counts j × WaitsBack wants (length p) j
      go r =
          let m : ℕ = r.second - r.first in
          let e : m + r.first ≡ r.second = omega (arith, r.order) in (
            nth (next_of wants) r.first i,
            blocked_nth i r.first b,
            (m, omega (arith, r.order), omega (arith, r.within), sym (nth_add (next_of wants) m r.first i) ∙ (ap (λ k. nth (next_of wants) k i) e ∙ sym r.same)),
          )

  -- ---- actions

  -- unfinished, and one of the program
  pub record IsUnfinished (a : ActionId) : Type 0 where
    pub agent : a.agent < length p
    pub open_yet : slice_index counts a.agent < a.number
    pub last : a.number ≤ moves p a.agent

  pub need_own : (a : ActionId) → slice_index counts a.agent + 1 < a.number → need_of counts wants a ≡ record { agent = a.agent; number = a.number - 1 }
  unfolding need_of
  need_own a h = rw (lt-ltb (slice_index counts a.agent + 1) a.number h) refl

  pub need_want : (a : ActionId) → a.number ≤ slice_index counts a.agent + 1 → need_of counts wants a ≡ record { agent = (want_at wants a.agent).agent; number = (want_at wants a.agent).count }
  unfolding need_of
  need_want a h = rw (le-ltb (slice_index counts a.agent + 1) a.number h) refl

  pub blocked_agent : (a : ActionId) → IsUnfinished a → IsBlocked p counts a.agent
  blocked_agent a u = record { agent = u.agent; left = omega (arith, u.open_yet, u.last) }

  pub record IsNeeded (a b : ActionId) : Type 0 where
    pub needs : DirectlyNeeds p a b
    pub unfinished : IsUnfinished b
    -- its agent, or whom that one waits for
    pub agent : (b.agent ≡ a.agent) ⊎ (b.agent ≡ next_of wants a.agent)

  pub needed : (a : ActionId) → IsUnfinished a → IsNeeded a (need_of counts wants a)
  needed a u = elim (cases_lt (slice_index counts a.agent + 1) a.number) [
    | inl l ↦ subst (IsNeeded a) (sym (need_own a l)) (record {
      needs = inl (refl, omega arith, omega arith);
      unfinished = record { agent = u.agent; open_yet = omega arith; last = omega (arith, u.last) };
      agent = inl refl;
    })
    | inr l ↦
        let b = blocked_agent a u in
        let v = w.each a.agent b in
        let e : slice_index counts a.agent + 1 ≡ a.number = omega (arith, u.open_yet) in
        let here : Contains (awaits_of p a.agent a.number) (want_at wants a.agent) = subst (λ n. Contains (awaits_of p a.agent n) (want_at wants a.agent)) e v.awaited in
        subst (IsNeeded a) (sym (need_want a l)) (record {
          needs = inr here;
          unfinished = record { agent = (blocked_next a.agent b).agent; open_yet = v.unmet; last = (range a.agent a.number (want_at wants a.agent) here).last };
          agent = inr refl;
        })
  ]

  -- ---- the trail back from the next action of an agent

  abbrev next_action : ℕ → ActionId
  next_action = next_of_agent counts

  abbrev nth_need : ℕ → ℕ → ActionId
  nth_need = nth_need_of counts wants

  pub unfinished_nth : (i k : ℕ) → IsBlocked p counts i → IsUnfinished (nth_need i k)
  unfinished_nth i zero b = record { agent = b.agent; open_yet = omega arith; last = omega (arith, b.left) }
  unfinished_nth i (suc k) b = (needed (nth_need i k) (unfinished_nth i k b)).unfinished

  -- its agents are those for whom the waiting goes on
  pub agent_nth : (i k : ℕ) → IsBlocked p counts i → (x : ℕ) × ((nth_need i k).agent ≡ nth (next_of wants) x i)
  agent_nth i zero b = (0, refl)
  agent_nth i (suc k) b = go (agent_nth i k b) ((needed (nth_need i k) (unfinished_nth i k b)).agent)
    where
      go : (x : ℕ) × ((nth_need i k).agent ≡ nth (next_of wants) x i) → ((nth_need i (suc k)).agent ≡ (nth_need i k).agent) ⊎ ((nth_need i (suc k)).agent ≡ next_of wants (nth_need i k).agent)
          → (x : ℕ) × ((nth_need i (suc k)).agent ≡ nth (next_of wants) x i)
      go (x, e) (inl same) = (x, same ∙ e)
      go (x, e) (inr on) = (suc x, on ∙ ap (next_of wants) e)

  -- the needs from the next action of an agent down to the next one of whom it waits for
  pub segment : (first i : ℕ) (n : ℕ) → IsBlocked p counts i → nth_need first n ≡ next_action i → (k : ℕ) → slice_index counts (next_of wants i) + k < (want_at wants i).count
      → nth_need first (suc (n + k)) ≡ record { agent = next_of wants i; number = (want_at wants i).count - k }
  segment first i n b here zero h =
      let e : n + 0 ≡ n = omega arith in
      ap (λ m. need_of counts wants (nth_need first m)) e ∙ (ap (need_of counts wants) here ∙ (need_want (next_action i) (omega arith)
      ∙ same_action (record { agent = next_of wants i; number = (want_at wants i).count }) (record { agent = next_of wants i; number = (want_at wants i).count - 0 }) refl (omega arith)))
  segment first i n b here (suc k) h =
      let e : n + suc k ≡ suc (n + k) = omega arith in
      let x : ActionId = record { agent = next_of wants i; number = (want_at wants i).count - k } in
      ap (λ m. need_of counts wants (nth_need first m)) e
      ∙ (ap (need_of counts wants) (segment first i n b here k (omega arith))
      ∙ (need_own x (omega arith) ∙ same_action (record { agent = next_of wants i; number = (want_at wants i).count - k - 1 }) (record { agent = next_of wants i; number = (want_at wants i).count - suc k }) refl (omega arith)))

  -- the next ones for whom the waiting goes on
  pub trail_on : (first i : ℕ) (trail : List ActionId) → IsWaitTrail counts wants first i trail → (1 ≤ length trail → i ≢ first) → IsBlocked p counts i
      → IsWaitTrail counts wants first (next_of wants i) (trail ++ down_from (next_of wants i) (want_at wants i).count ((want_at wants i).count - slice_index counts (next_of wants i)))
  trail_on first i trail t apart b = record { needs = needs; here = here; not_back = not_back }
    where
      j : ℕ
      j = next_of wants i

      c : ℕ
      c = (want_at wants i).count

      total : ℕ
      total = c - slice_index counts j

      some : slice_index counts j < c
      some = (w.each i b).unmet

      down : List ActionId
      down = down_from j c total

      long : length down ≡ total
      long = length-map-range_with_len (λ k. record { agent = j; number = c - k }) 0 total

      whole : length (trail ++ down) ≡ length trail + total
      whole = length-append trail down ∙ ap (λ m. length trail + m) long

      one : (k : ℕ) → k < total → nth_need first (suc (length trail + k)) ≡ record { agent = j; number = c - k }
      one k l = segment first i (length trail) b t.here k (omega arith)

      needs : (k : ℕ) → k < length (trail ++ down) → get_or (trail ++ down) k (next_action first) ≡ nth_need first (suc k)
      needs k l = elim (cases_lt k (length trail)) [
        | inl h ↦ get_or_append_left trail down (next_action first) k h ∙ t.needs k h
        | inr h ↦
            let m : k - length trail < total = omega (arith, whole) in
            let e : length trail + (k - length trail) ≡ k = omega arith in
            get_or-append_right trail down (length trail) k (next_action first) refl h
            ∙ (get_or-map-range_with_len (λ n. record { agent = j; number = c - n }) 0 total (k - length trail) (k - length trail) (next_action first) m (omega arith)
            ∙ (sym (one (k - length trail) m) ∙ ap (λ n. nth_need first (suc n)) e))
      ]

      here : nth_need first (length (trail ++ down)) ≡ next_action j
      here =
          let e : length (trail ++ down) ≡ suc (length trail + (total - 1)) = omega (arith, whole, some) in
          ap (nth_need first) e ∙ (one (total - 1) (omega (arith, some)) ∙ same_action (record { agent = j; number = c - (total - 1) }) (next_action j) refl (omega (arith, some)))

      not_back : (k : ℕ) → 1 ≤ k → k < length (trail ++ down) → nth_need first k ≢ next_action first
      not_back k f l back = elim (cases_lt k (length trail)) [
        | inl h ↦ t.not_back k f h back
        | inr h ↦ elim (cases_eq k (length trail)) [
          | inl e ↦ apart (omega arith) (ap (λ a. a.agent) (sym t.here ∙ (ap (nth_need first) (sym e) ∙ back)))
          | inr ne ↦
              let m : ℕ = k - suc (length trail) in
              let e : suc (length trail + m) ≡ k = omega arith in
              let at : nth_need first k ≡ record { agent = j; number = c - m } = ap (nth_need first) (sym e) ∙ one m (omega (arith, whole)) in
              let agent : j ≡ first = ap (λ a. a.agent) (sym at ∙ back) in
              let number : c - m ≡ slice_index counts first + 1 = ap (λ a. a.number) (sym at ∙ back) in
              let same : slice_index counts first ≡ slice_index counts j = ap (slice_index counts) (sym agent) in
              omega (arith, whole, some)
        ]
      ]

  pub some_on : (i : ℕ) (trail : List ActionId) → IsBlocked p counts i
      → 1 ≤ length (trail ++ down_from (next_of wants i) (want_at wants i).count ((want_at wants i).count - slice_index counts (next_of wants i)))
  some_on i trail b =
      let n : ℕ = (want_at wants i).count - slice_index counts (next_of wants i) in
      omega (arith, (w.each i b).unmet, length-append trail (down_from (next_of wants i) (want_at wants i).count n), length-map-range_with_len {X = ActionId} (λ k. record { agent = next_of wants i; number = (want_at wants i).count - k }) 0 n)

  -- ---- the ring

  back_again : (first m k : ℕ) → nth (next_of wants) m first ≡ first → nth (next_of wants) m (nth (next_of wants) k first) ≡ nth (next_of wants) k first
  back_again first m k e =
      let a : m + k ≡ k + m = omega arith in
      sym (nth_add (next_of wants) m k first) ∙ (ap (λ n. nth (next_of wants) n first) a ∙ (nth_add (next_of wants) k m first ∙ ap (nth (next_of wants) k) e))

  pub told : (first : ℕ) (trail : List ActionId) → IsLeastBack p counts wants first → IsWaitTrail counts wants first first trail → 1 ≤ length trail → IsToldRing p (reverse trail)
  told first trail l t f = record {
    some = omega (arith, long);
    around = record { actions = λ k d h. act k d h; next = next; closes = closes };
    once = once;
    least = λ a e k d h. least a e k d h;
  }
    where
      m : ℕ
      m = length trail

      long : length (reverse trail) ≡ m
      long = length-reverse trail

      -- the ring is the trail the other way
      at : (k : ℕ) → k < m → get_or (reverse trail) k (next_action first) ≡ nth_need first (m - k)
      at k h =
          let e : suc (m - 1 - k) ≡ m - k = omega arith in
          get_or-reverse trail k (next_action first) h ∙ (t.needs (m - 1 - k) (omega arith) ∙ ap (nth_need first) e)

      is : (k : ℕ) (a : ActionId) → slice_get (reverse trail) k ≡ Some a → (k < m) × (a ≡ nth_need first (m - k))
      is k a e =
          let h : k < m = omega (arith, slice_get_within (reverse trail) k a e, long) in
          (h, sym (get_or_from_slice_get (reverse trail) k a (next_action first) e) ∙ at k h)

      need : (k : ℕ) → IsNeeded (nth_need first k) (nth_need first (suc k))
      need k = needed (nth_need first k) (unfinished_nth first k l.blocked)

      unfinished : (k : ℕ) (d : ActionId) → k < length (reverse trail) → IsUnfinished (get_or (reverse trail) k d)
      unfinished k d h =
          let h' : k < m = omega (arith, long) in
          subst IsUnfinished (sym (get_or_default (reverse trail) k d (next_action first) h ∙ at k h')) (unfinished_nth first (m - k) l.blocked)

      act : (k : ℕ) (d : ActionId) → k < length (reverse trail) → IsAction p (get_or (reverse trail) k d)
      act k d h = let u = unfinished k d h in record { agent = u.agent; first = omega (arith, u.open_yet); last = u.last }

      next : (k : ℕ) (a b : ActionId) → slice_get (reverse trail) k ≡ Some a → slice_get (reverse trail) (k + 1) ≡ Some b → DirectlyNeeds p b a
      next k a b e g =
          let x = is k a e in
          let y = is (k + 1) b g in
          let n : suc (m - (k + 1)) ≡ m - k = omega (arith, y.0) in
          subst (λ c. DirectlyNeeds p b c) (ap (nth_need first) n ∙ sym x.1) (subst (λ c. DirectlyNeeds p c (nth_need first (suc (m - (k + 1))))) (sym y.1) ((need (m - (k + 1))).needs))

      closes : (a b : ActionId) → slice_get (reverse trail) 0 ≡ Some a → slice_get (reverse trail) (length (reverse trail) - 1) ≡ Some b → DirectlyNeeds p a b
      closes a b e g =
          let x = is 0 a e in
          let y = is (length (reverse trail) - 1) b g in
          let n : m - (length (reverse trail) - 1) ≡ 1 = omega (arith, long) in
          let z : m - 0 ≡ m = omega arith in
          let a' : a ≡ nth_need first 0 = x.1 ∙ (ap (nth_need first) z ∙ t.here) in
          subst (λ c. DirectlyNeeds p a c) (sym (y.1 ∙ ap (nth_need first) n)) (subst (λ c. DirectlyNeeds p c (nth_need first 1)) (sym a') ((need 0).needs))

      -- what comes twice comes back too early
      early : (x y : ℕ) → 1 ≤ x → x < y → y ≤ m → nth_need first x ≡ nth_need first y → ⊥
      early x y f h n e =
          let g : (m - y) + x < m = omega arith in
          let u : (m - y) + y ≡ m = omega arith in
          t.not_back ((m - y) + x) (omega arith) g
          (nth_add (need_of counts wants) (m - y) x (next_action first) ∙ (ap (nth (need_of counts wants) (m - y)) e
          ∙ (sym (nth_add (need_of counts wants) (m - y) y (next_action first)) ∙ (ap (nth_need first) u ∙ t.here))))

      once : (j k : ℕ) (a : ActionId) → slice_get (reverse trail) j ≡ Some a → slice_get (reverse trail) k ≡ Some a → j ≡ k
      once j k a e g =
          let x = is j a e in
          let y = is k a g in
          elim (cases_eq j k) [
            | inl s ↦ s
            | inr ne ↦ elim (cases_lt j k) [
              | inl h ↦ absurd (early (m - k) (m - j) (omega (arith, y.0)) (omega (arith, y.0)) (omega arith) (sym y.1 ∙ x.1))
              | inr h ↦ absurd (early (m - j) (m - k) (omega (arith, x.0)) (omega (arith, x.0)) (omega arith) (sym x.1 ∙ y.1))
            ]
          ]

      least : (a : ActionId) → slice_get (reverse trail) 0 ≡ Some a → (k : ℕ) (d : ActionId) → k < length (reverse trail) → IsActionUpTo a (get_or (reverse trail) k d)
      least a e k d h =
          let x = is 0 a e in
          let z : m - 0 ≡ m = omega arith in
          let a' : a ≡ next_action first = x.1 ∙ (ap (nth_need first) z ∙ t.here) in
          let h' : k < m = omega (arith, long) in
          let b : get_or (reverse trail) k d ≡ nth_need first (m - k) = get_or_default (reverse trail) k d (next_action first) h ∙ at k h' in
          subst (λ v. IsActionUpTo v (get_or (reverse trail) k d)) (sym a') (subst (IsActionUpTo (next_action first)) (sym b) (up (m - k)))
        where
          up : (n : ℕ) → IsActionUpTo (next_action first) (nth_need first n)
          up n =
              let u = unfinished_nth first n l.blocked in
              let g = agent_nth first n l.blocked in
              elim (cases_lt (nth_need first n).agent first) [
                | inl low ↦ absurd (l.least (nth_need first n).agent low (blocked_agent (nth_need first n) u)
                    (l.back.0, l.back.1, l.back.2, subst (λ v. nth (next_of wants) l.back.0 v ≡ v) (sym g.1) (back_again first l.back.0 g.0 l.back.3)))
                | inr high ↦ elim (cases_eq first (nth_need first n).agent) [
                  | inl same ↦ inr (same, (let q : slice_index counts first ≡ slice_index counts (nth_need first n).agent = ap (slice_index counts) same in omega (arith, u.open_yet)))
                  | inr ne ↦ inl (omega arith)
                ]
              ]

-- one step more
pub nth_more : (f : ℕ → ℕ) (n i j : ℕ) → j ≡ nth f n i → f j ≡ nth f (n + 1) i
nth_more f n i j e = ap f e ∙ ap (λ k. nth f k i) (sym (Rattle.std.proofs.Common.add-one n))

pub steps_more : (f : ℕ → ℕ) (n i : ℕ) → ((k : ℕ) → 1 ≤ k → k ≤ n → nth f k i ≢ i) → nth f (n + 1) i ≢ i → (k : ℕ) → 1 ≤ k → k ≤ n + 1 → nth f k i ≢ i
steps_more f n i before here k a b e = elim (cases_eq k (n + 1)) [ inl g ↦ here (ap (λ m. nth f m i) (sym g) ∙ e) | inr ne ↦ before k a (omega arith) e ]

pub counts_are : (c : Configuration) → AreCounts c (counts_of c)
counts_are [] i = refl
counts_are (s ∷ c) zero = refl
counts_are (s ∷ c) (suc i) = counts_are c i

module _ (p : Program) (c : Configuration) (stuck : IsTrue (is_stuck p c)) where
  parts : (not (is_finished p c) ≡ true) × (not (list_any (is_ready p c) (indices (length p))) ≡ true)
  parts = and_parts (not (is_finished p c)) (not (list_any (is_ready p c) (indices (length p)))) stuck

  -- nobody is ready
  pub none_ready : (i : ℕ) → i < length p → IsReadyBy p (counts_of c) i → ⊥
  none_ready i l r =
      let ready = ready_from p c i (by_ready p c (counts_of c) (counts_are c) i r) in
      let some = any_at (is_ready p c) (length p) i l ready in
      let none = not-true (list_any (is_ready p c) (indices (length p))) parts.1 in
      cc

  -- somebody has an action left
  pub some_blocked : (i : ℕ) × IsBlocked p (counts_of c) i
  some_blocked =
      let one = unfinished_one p c (not-true (is_finished p c) parts.0) in
      let same : slice_index (counts_of c) one.0 ≡ count_at c one.0 = counts_are c one.0 in
      (one.0, record { agent = one.1; left = omega (arith, one.2) })
