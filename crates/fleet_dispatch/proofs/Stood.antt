-- What is carried out after reports that could be taken is what some run has finished at some time.
use Rattle.fleet_dispatch.proofs.Cited.{◌≡◌, ℕ, zero, suc, ◌+◌, ◌<◌, ◌≤◌, Bool, true, false, not, ◌&&◌, List, [], ◌∷◌, ◌++◌, length, map, Contains, sym, ap, subst, ◌∙◌, arith, le-leb, inl, inr, nat_le, cases_lt, cases_Bool, lt-leb, and-false, ext_get_or, take_all, get_or_past, get_or-replicate, get_or-map-range_with_len, length-map-range_with_len, map-range_with_len_more, Await, Standing, Program, moves, awaits_of, path, Configuration, standing_at, count_at, is_ready, tick, opening, indices, IsReached, bound_below, length-run, standing_at_tick, standing_at_opening, free_moves, other_stays, unready_waits, start_reached, tick_reached, on_path, Words, Counts, count_of, AreTaken, Left, counts_by, configuration_at, reports_in, IsReplayed, log_course, MOST_AHEAD, none_done, counts_at}
use Rattle.fleet_dispatch.proofs.Leading.{long, grows, limited, may_told, told_needs}

-- a configuration of a run, in which each agent has finished so many actions
record Stands (p : Program) (f : ℕ → ℕ) : Type 0 where
  at : Configuration
  reached : IsReached p at
  counts : (i : ℕ) → i < length p → count_at at i ≡ f i

-- ---- from some counts to others, each action of which needs only what is finished by the first

module _ (p : Program) (a b : ℕ → ℕ) (past : (i : ℕ) → length p ≤ i → a i ≡ 0) (rise : (i : ℕ) → i < length p → a i ≤ b i)
    (within : (i : ℕ) → i < length p → b i ≤ moves p i)
    (due : (i n : ℕ) (w : Await) → i < length p → a i < n → n ≤ b i → Contains (awaits_of p i n) w → w.count ≤ a w.agent) where
  -- no agent has finished less than at first nor more than at last, nor less than d more than at first unless it is
  -- done
  record Between (d : ℕ) : Type 0 where
    at : Configuration
    reached : IsReached p at
    low : (i : ℕ) → i < length p → a i ≤ count_at at i
    high : (i : ℕ) → i < length p → count_at at i ≤ b i
    far : (i : ℕ) → i < length p → count_at at i < b i → a i + d ≤ count_at at i

  begins : Stands p a → Between 0
  begins s = record {
    at = s.at;
    reached = s.reached;
    low = λ i h. omega (arith, s.counts i h);
    high = λ i h. omega (arith, s.counts i h, rise i h);
    far = λ i h l. omega (arith, s.counts i h);
  }

  module _ (d : ℕ) (s : Between d) where
    abbrev c : Configuration
    c = s.at

    -- who is done is held
    abbrev held : ℕ → Bool
    held i = nat_le (b i) (count_at s.at i)

    ready : (i : ℕ) → i < length p → count_at c i < b i → is_ready p c i ≡ true
    ready i h l = elim (cases_Bool (is_ready p c i)) [
      | inl due_now ↦ due_now
      | inr waits ↦ absurd (
          let room = within i h in
          let w = unready_waits p c i waits (omega (arith, room, l)) in
          let low_here = s.low i h in
          let met : w.0.count ≤ a w.0.agent = due i (suc (count_at c i)) w.0 h (omega (arith, low_here)) (omega (arith, l)) w.1 in
          elim (cases_lt w.0.agent (length p)) [
            | inl inside ↦ (let low_there = s.low w.0.agent inside in let unmet = w.2 in omega (arith, low_there, unmet, met))
            | inr outside ↦ (let none = past w.0.agent outside in let unmet = w.2 in omega (arith, none, unmet, met))
          ])
    ]

    moved : (i : ℕ) → i < length p → count_at c i < b i → count_at (tick p held c) i ≡ count_at c i + 1
    moved i h l =
        let free : held i ≡ false = lt-leb (b i) (count_at c i) l in
        let m = free_moves p held c i (ready i h l) free in
        ap (λ (x : Standing). x.count) (standing_at_tick p held c i h ∙ m.2)

    stayed : (i : ℕ) → i < length p → b i ≤ count_at c i → count_at (tick p held c) i ≡ count_at c i
    stayed i h le =
        let kept : held i ≡ true = le-leb (b i) (count_at c i) le in
        let still : (is_ready p c i && not (held i)) ≡ false = rw kept (and-false (is_ready p c i)) in
        ap (λ (x : Standing). x.count) (standing_at_tick p held c i h ∙ other_stays p held c i still)

    further : Between (suc d)
    further = record {
      at = tick p held c;
      reached = tick_reached p c held s.reached;
      low = λ i h. elim (cases_lt (count_at c i) (b i)) [
        | inl l ↦ omega (arith, moved i h l, s.low i h)
        | inr le ↦ omega (arith, stayed i h le, s.low i h)
      ];
      high = λ i h. elim (cases_lt (count_at c i) (b i)) [
        | inl l ↦ omega (arith, moved i h l, l)
        | inr le ↦ omega (arith, stayed i h le, s.high i h)
      ];
      far = λ i h less. elim (cases_lt (count_at c i) (b i)) [
        | inl l ↦ omega (arith, moved i h l, s.far i h l)
        | inr le ↦ absurd (omega (arith, stayed i h le, le, less))
      ];
    }

  after : (d : ℕ) → Stands p a → Between d
  after zero s = begins s
  after (suc d) s = further d (after d s)

  gets_there : Stands p a → Stands p b
  gets_there s =
      let m = bound_below b (length p) in
      let t = after m.0 s in
      record {
        at = t.at;
        reached = t.reached;
        counts = λ i h. elim (cases_lt (count_at t.at i) (b i)) [
          | inl less ↦ absurd (omega (arith, less, t.far i h less, m.1 i h))
          | inr le ↦ omega (arith, le, t.high i h)
        ];
      }

-- ---- standings

pub standing_from_parts : (x y : Standing) → x.place ≡ y.place → x.count ≡ y.count → x ≡ y
standing_from_parts x y place count = λ i. record { place = place i; count = count i }

-- one agent more
pub standing_more : (f : ℕ → Standing) (i : ℕ) (standings new : Configuration) (s : Standing) → standings ≡ map f (indices i) → new ≡ standings ++ s ∷ [] → s ≡ f i → new ≡ map f (indices (i + 1))
standing_more f i standings new s is made here = cc (is, made, here, map-range_with_len_more f 0 i i (omega arith))

-- ---- over the reports

module _ (p : Program) (k : ℕ) (reports : List Words) (taken : AreTaken p k (none_done p) reports) where
  at_first : Stands p (count_of (counts_at p reports 0))
  at_first = record {
    at = opening p;
    reached = start_reached p;
    counts = λ i h. ap (λ (x : Standing). x.count) (standing_at_opening p i) ∙ sym (get_or-replicate (length p) i 0 0 h);
  }

  at_report : (t : ℕ) → t ≤ length reports → Stands p (count_of (counts_at p reports t))
  at_report zero le = at_first
  at_report (suc t) le =
      let next : t + 1 ≡ suc t = omega arith in
      subst (λ (u : ℕ). Stands p (count_of (counts_at p reports u))) next
      (gets_there p (count_of (counts_at p reports t)) (count_of (counts_at p reports (t + 1)))
      (λ i outside. get_or_past (counts_at p reports t) i 0 (omega (arith, outside, long p k reports taken t (omega arith))))
      (λ i h. grows p k reports taken t i (omega arith))
      (λ i h. (let room = (may_told p k reports taken t i (omega arith) h).within in omega (arith, room, limited p k reports taken t i (omega arith))))
      (λ i n w h more less member. told_needs p k reports taken t i n (omega arith) h (omega arith) (omega (arith, less, limited p k reports taken t i (omega arith))) w member)
      (at_report t (omega arith)))

  pub stood : IsReached p (configuration_at p (counts_by (none_done p) reports))
  stood =
      let s = at_report (length reports) (omega arith) in
      let counts : Counts = counts_at p reports (length reports) in
      let agents : length s.at ≡ length p = ap length (sym s.reached.same) ∙ length-run p s.reached.holds s.reached.ticks in
      let each : (i : ℕ) → i < length s.at → standing_at s.at i ≡ standing_at (configuration_at p counts) i =
      λ i h. (
      let inside : i < length p = omega (arith, h, agents) in
      let made : ℕ → Standing = λ j. record { place = path p j (count_of counts j); count = count_of counts j } in
      let there : standing_at (configuration_at p counts) i ≡ made i = get_or-map-range_with_len made 0 (length p) i i _ inside (omega arith) in
      standing_from_parts (standing_at s.at i) (made i) (on_path p s.at s.reached i inside ∙ ap (path p i) (s.counts i inside)) (s.counts i inside) ∙ sym there) in
      let same : s.at ≡ configuration_at p counts =
      ext_get_or (standing_at [] 0) s.at (configuration_at p counts) (agents ∙ sym (length-map-range_with_len (λ j. record { place = path p j (count_of counts j); count = count_of counts j }) 0 (length p))) each in
      let all : counts ≡ counts_by (none_done p) reports = ap (counts_by (none_done p)) (take_all (length reports) reports (omega arith)) in
      subst (λ (x : Counts). IsReached p (configuration_at p x)) all (subst (IsReached p) same s.reached)

-- so it is after the reports of a log
pub replay_reached : (p : Program) (log : List ℕ) (past : Left) → IsReplayed (log_course p) log past → IsReached p (configuration_at p past.done)
replay_reached p log past (inl h) = rw (ap (λ (z : Left). z.done) h.1.2) (stood p MOST_AHEAD (reports_in h.1.0) h.1.1.taken)
replay_reached p log past (inr h) = rw (ap (λ (z : Left). z.done) h.1.2) (stood p MOST_AHEAD (reports_in h.1.0) h.1.1.taken)
