-- A dispatch that gives one order at a time is a run of the machine.
use Rattle.fleet_dispatch.proofs.Cited.{◌≡◌, ℕ, zero, suc, ◌+◌, ◌<◌, ◌≤◌, Bool, true, false, not, ◌&&◌, cond, List, [], ◌∷◌, ◌++◌, length, Contains, get_or, take, refl, ap, sym, ◌∙◌, subst, arith, inl, inr, add-one, take_all, lt-ltb, ltb-true, nat_lt, nat_le, list_all, cases_lt, ext_get_or, get_or_past, get_or-map-range_with_len, length-map-range_with_len, Place, Standing, Program, moves, path, awaits_of, Configuration, Holds, indices, is_among, is_held, run, standing_at, count_at, is_ready, is_finished, AreAllReady, length-run, count_opening, count_past, run_place, agents_held, reports_hold, IsReadyTo, ready_says, ready_from, step, ReportForm, Words, Counts, count_of, counts_after, told_to, told_at, is_all_done, order_line, agent_orders, new_orders, counts_by, told_by, configuration_at, AreTaken, none_done, counts_at, movers, movers_by, holds_by, orders_in_run, IsRun}
use Rattle.fleet_dispatch.proofs.Leading.{none_first, long, grows, limited, within, may_told, next}
use Rattle.fleet_dispatch.proofs.Telling.{told_cannot}
use Rattle.fleet_dispatch.proofs.Texts.{flat_agree, orders_more, orders_none}

-- ---- the reports of a dispatch, one by one

long_movers : (p : Program) (counts : Counts) (reports : List Words) → length (movers_by p counts reports) ≡ length reports
long_movers p counts [] = refl
long_movers p counts (r ∷ reports) = ap suc (long_movers p (counts_after counts r) reports)

movers_at : (p : Program) (counts : Counts) (reports : List Words) (t : ℕ) → t < length reports
    → get_or (movers_by p counts reports) t [] ≡ movers p (counts_by counts (take t reports)) (get_or reports t [])
movers_at p counts [] t l = absurd (omega arith)
movers_at p counts (r ∷ reports) zero l = refl
movers_at p counts (r ∷ reports) (suc t) l = movers_at p (counts_after counts r) reports t (omega arith)

pub told_last : (p : Program) (k : ℕ) (told counts : Counts) (reports : List Words) (t : ℕ) → length reports ≡ suc t
    → told_by p k told counts reports ≡ told_at p k (counts_by counts (take t reports))
told_last p k told counts [] t e = absurd (omega arith)
told_last p k told counts (r ∷ []) zero e = refl
told_last p k told counts (r ∷ []) (suc t) e = absurd (omega arith)
told_last p k told counts (r ∷ q ∷ reports) zero e = absurd (omega arith)
told_last p k told counts (r ∷ q ∷ reports) (suc t) e = told_last p k (told_at p k counts) (counts_after counts r) (q ∷ reports) t (omega arith)

module _ (p : Program) (reports : List Words) (taken : AreTaken p 1 (none_done p) reports) where
  abbrev m : ℕ
  m = length reports

  abbrev c : ℕ → Counts
  c t = counts_at p reports t

  abbrev told : ℕ → ℕ → ℕ
  told t i = told_to p 1 (counts_at p reports t) i

  abbrev holds : Holds
  holds = holds_by p reports

  abbrev at : ℕ → Configuration
  at t = run p holds t

  -- who is held with the next report
  held_is : (t i : ℕ) → t < m → i < length p → is_held holds t i ≡ not (nat_lt (count_of (c t) i) (count_of (c (t + 1)) i))
  held_is t i l a =
      let all = movers_by p (none_done p) reports in
      reports_hold (length p) all t i a (omega (arith, long_movers p (none_done p) reports))
      ∙ ap (λ (xs : List ℕ). not (is_among xs i)) (movers_at p (none_done p) reports t l)
      ∙ ap not (agents_held (length p) (λ j. nat_lt (count_of (c t) j) (count_of (counts_after (c t) (get_or reports t [])) j)) i a)
      ∙ ap (λ (x : Counts). not (nat_lt (count_of (c t) i) (count_of x i))) (sym (next p 1 reports taken t l))

  -- ---- who is ready

  module _ (t i : ℕ) (le : t ≤ m) (a : i < length p) (same : (j : ℕ) → count_at (at t) j ≡ count_of (c t) j) where
    told_ready : count_of (c t) i < told t i → IsReadyTo p (at t) i
    told_ready l =
        let may = may_told p 1 reports taken t i le a in
        let more : count_of (c t) i + 1 ≡ suc (count_at (at t) i) = omega (arith, same i) in
        record {
          left = (let high = may.within in omega (arith, same i));
          met = λ w h. (let met = may.met (count_of (c t) i + 1) (omega arith) (omega arith) w (rw (more) h) in omega (arith, met, same w.agent));
        }

    ready_told : IsReadyTo p (at t) i → told t i ≡ count_of (c t) i + 1
    ready_told r =
        let may = may_told p 1 reports taken t i le a in
        let from = may.from in
        let few = may.few in
        elim (cases_lt (count_of (c t) i) (told t i)) [
          | inl more ↦ omega arith
          | inr less ↦ absurd (
              let here : told t i ≡ count_at (at t) i = omega (arith, same i) in
              let next : suc (count_at (at t) i) ≡ told t i + 1 = omega arith in
              (told_cannot p 1 (c t) i (within p 1 reports taken t i le a)).stop (let left = r.left in omega arith) (omega arith)
              (λ w h. let met = r.met w (subst (λ (n : ℕ). Contains (awaits_of p i n) w) (sym next) h) in omega (arith, met, same w.agent)))
        ]

  -- ---- how much is carried out

  counts_step : (t : ℕ) → t < m → ((j : ℕ) → count_at (at t) j ≡ count_of (c t) j) → (i : ℕ) → i < length p → count_at (at (suc t)) i ≡ count_of (c (t + 1)) i
  counts_step t l same i a = elim (step p holds t i a) [
    | inl moves ↦ (
        let held : not (nat_lt (count_of (c t) i) (count_of (c (t + 1)) i)) ≡ false = sym (held_is t i l a) ∙ moves.free in
        let more : count_of (c t) i < count_of (c (t + 1)) i = ltb-true _ _ (unnot _ held) in
        omega (arith, moves.count, same i, limited p 1 reports taken t i l, ready_told t i (omega arith) a same moves.ready))
    | inr stays ↦ elim (cases_lt (count_of (c t) i) (count_of (c (t + 1)) i)) [
      | inl more ↦ absurd (
          let ready = told_ready t i (omega arith) a same (omega (arith, limited p 1 reports taken t i l)) in
          let held : true ≡ not (nat_lt (count_of (c t) i) (count_of (c (t + 1)) i)) = sym (stays.why ready) ∙ held_is t i l a in
          let yes : nat_lt (count_of (c t) i) (count_of (c (t + 1)) i) ≡ true = lt-ltb _ _ more in
          cc)
      | inr less ↦ omega (arith, stays.count, same i, grows p 1 reports taken t i l)
    ]
  ]
    where
      unnot : (b : Bool) → not b ≡ false → b ≡ true
      unnot true h = refl
      unnot false h = absurd cc

  counts_are : (t : ℕ) → t ≤ m → (i : ℕ) → count_at (at t) i ≡ count_of (c t) i
  counts_are zero le i = count_opening p holds i ∙ sym (none_first p 1 reports taken i)
  counts_are (suc t) le i = elim (cases_lt i (length p)) [
    | inl a ↦ counts_step t (omega arith) (counts_are t (omega arith)) i a ∙ ap (λ u. count_of (c u) i) (add-one t)
    | inr past ↦ count_past p holds (suc t) i past ∙ sym (get_or_past (c (suc t)) i 0 (omega (arith, long p 1 reports taken (suc t) le)))
  ]

  -- ---- orders

  -- what an agent is told, by whether it is ready
  told_by_ready : (t i : ℕ) → t ≤ m → i < length p → told t i ≡ count_of (c t) i + cond (is_ready p (at t) i) 1 0
  told_by_ready t i le a = go (is_ready p (at t) i) refl
    where
      go : (b : Bool) → is_ready p (at t) i ≡ b → told t i ≡ count_of (c t) i + cond (is_ready p (at t) i) 1 0
      go true e = rw e (ready_told t i le a (counts_are t le) (ready_says p (at t) i e))
      go false e = rw e (elim (cases_lt (count_of (c t) i) (told t i)) [
        | inl more ↦ absurd (let yes : is_ready p (at t) i ≡ true = ready_from p (at t) i (told_ready t i le a (counts_are t le) more) in cc)
        | inr less ↦ (let may = may_told p 1 reports taken t i le a in let from = may.from in omega arith)
      ])

  told_at_is : (t i : ℕ) → i < length p → count_of (told_at p 1 (c t)) i ≡ told t i
  told_at_is t i a = get_or-map-range_with_len (told_to p 1 (c t)) 0 (length p) i i 0 a (omega arith)

  one_order : (form : ReportForm) (i n : ℕ) → agent_orders p form i n (n + 1) ≡ order_line p form i n
  one_order form i n = orders_more p form i n n (omega arith) ∙ ap (λ (xs : List ℕ). xs ++ order_line p form i n) (orders_none p form i n n (omega arith))

  -- the orders of an agent between what it was told and what it is told
  orders_of : (form : ReportForm) (i before now n : ℕ) (new : Bool) → (new ≡ true → (before ≡ n) × (now ≡ n + 1)) → (new ≡ false → now ≤ before)
      → agent_orders p form i before now ≡ cond new (order_line p form i n) []
  orders_of form i before now n true is less = let e = is refl in rw (e.0, e.1) (one_order form i n)
  orders_of form i before now n false is less = orders_none p form i before now (less refl)

  -- what an agent has carried out, by whether it was ready and held
  moved : (t i : ℕ) → t < m → i < length p → count_of (c (t + 1)) i ≡ count_of (c t) i + cond (is_ready p (at t) i && not (is_held holds t i)) 1 0
  moved t i l a =
      let now : count_at (at (suc t)) i ≡ count_of (c (t + 1)) i = counts_are (suc t) (omega arith) i ∙ ap (λ u. count_of (c u) i) (sym (add-one t)) in
      let was : count_at (at t) i ≡ count_of (c t) i = counts_are t (omega arith) i in
      elim (step p holds t i a) [
        | inl moves ↦ (let r : is_ready p (at t) i ≡ true = ready_from p (at t) i moves.ready in rw (r, moves.free) (omega (arith, moves.count)))
        | inr stays ↦ go (is_ready p (at t) i) (is_held holds t i) refl (λ r. stays.why (ready_says p (at t) i r)) (omega (arith, stays.count))
      ]
    where
      go : (r h : Bool) → is_ready p (at t) i ≡ r → (is_ready p (at t) i ≡ true → h ≡ true) → count_of (c (t + 1)) i ≡ count_of (c t) i → count_of (c (t + 1)) i ≡ count_of (c t) i + cond (r && not h) 1 0
      go false h e why same = omega arith
      go true true e why same = omega arith
      go true false e why same = absurd (let f = why e in cc)

  -- the orders of an agent that are due after a report
  due_of : (form : ReportForm) (t i : ℕ) → t < m → i < length p
      → agent_orders p form i (told t i) (told (t + 1) i) ≡ cond (is_ready p (at (t + 1)) i && not (is_ready p (at t) i && is_held holds t i)) (order_line p form i (count_of (c (t + 1)) i)) []
  due_of form t i l a =
      orders_of form i (told t i) (told (t + 1) i) (count_of (c (t + 1)) i) _
      (go (is_ready p (at (t + 1)) i) (is_ready p (at t) i) (is_held holds t i) (told_by_ready (t + 1) i (omega arith) a) (told_by_ready t i (omega arith) a) (moved t i l a)).0
      (go (is_ready p (at (t + 1)) i) (is_ready p (at t) i) (is_held holds t i) (told_by_ready (t + 1) i (omega arith) a) (told_by_ready t i (omega arith) a) (moved t i l a)).1
    where
      go : (r' r h : Bool) → told (t + 1) i ≡ count_of (c (t + 1)) i + cond r' 1 0 → told t i ≡ count_of (c t) i + cond r 1 0 → count_of (c (t + 1)) i ≡ count_of (c t) i + cond (r && not h) 1 0
          → ((r' && not (r && h)) ≡ true → (told t i ≡ count_of (c (t + 1)) i) × (told (t + 1) i ≡ count_of (c (t + 1)) i + 1))
          × ((r' && not (r && h)) ≡ false → told (t + 1) i ≤ told t i)
      go false r h now was moved = (λ e. absurd cc, λ e. omega (arith, limited p 1 reports taken t i l))
      go true false h now was moved = (λ e. (omega arith, omega arith), λ e. absurd cc)
      go true true false now was moved = (λ e. (omega arith, omega arith), λ e. absurd cc)
      go true true true now was moved = (λ e. absurd cc, λ e. omega arith)

  due_orders : (form : ReportForm) (t : ℕ) → m ≡ t → new_orders p form (told_by p 1 (none_done p) (none_done p) reports) (told_at p 1 (c t)) ≡ orders_in_run p form holds t
  unfolding new_orders orders_in_run
  due_orders form zero e =
      flat_agree _ _ 0 (length p) (λ i low high.
      let a : i < length p = omega arith in
      let was : count_of (told_by p 1 (none_done p) (none_done p) reports) i ≡ count_of (c 0) i = ap (λ (x : Counts). count_of x i) (first reports e) in
      let ready = told_by_ready 0 i (omega arith) a in
      ap (λ (n : ℕ). agent_orders p form i n (count_of (told_at p 1 (c 0)) i)) was
      ∙ ap (agent_orders p form i (count_of (c 0) i)) (told_at_is 0 i a)
      ∙ orders_of form i (count_of (c 0) i) (told 0 i) (count_of (c 0) i) (is_ready p (at 0) i) (λ y. (refl, ready ∙ ap (λ (b : Bool). count_of (c 0) i + cond b 1 0) y))
      (λ n. let r : told 0 i ≡ count_of (c 0) i + 0 = ready ∙ ap (λ (b : Bool). count_of (c 0) i + cond b 1 0) n in omega arith)
      ∙ ap (λ (n : ℕ). cond (is_ready p (at 0) i) (order_line p form i n) []) (sym (counts_are 0 (omega arith) i)))
    where
      first : (rs : List Words) → length rs ≡ 0 → told_by p 1 (none_done p) (none_done p) rs ≡ none_done p
      first [] f = refl
      first (r ∷ rs) f = absurd (omega arith)
  due_orders form (suc t) e =
      let l : t < m = omega arith in
      let up : t + 1 ≡ suc t = add-one t in
      flat_agree _ _ 0 (length p) (λ i low high.
      let a : i < length p = omega arith in
      let was : count_of (told_by p 1 (none_done p) (none_done p) reports) i ≡ told t i = ap (λ (x : Counts). count_of x i) (told_last p 1 (none_done p) (none_done p) reports t e) ∙ told_at_is t i a in
      let now : count_of (told_at p 1 (c (suc t))) i ≡ told (suc t) i = told_at_is (suc t) i a in
      ap (λ (n : ℕ). agent_orders p form i n (count_of (told_at p 1 (c (suc t))) i)) was
      ∙ ap (agent_orders p form i (told t i)) now
      ∙ subst (λ u. agent_orders p form i (told t i) (told u i) ≡ cond (is_ready p (at u) i && not (is_ready p (at t) i && is_held holds t i)) (order_line p form i (count_of (c u) i)) []) up (due_of form t i l a)
      ∙ ap (λ (n : ℕ). cond (is_ready p (at (suc t)) i && not (is_ready p (at t) i && is_held holds t i)) (order_line p form i n) []) (sym (counts_are (suc t) (omega arith) i)))

  -- ---- where all stand

  abbrev stands : Counts → ℕ → Standing
  stands x i = record { place = path p i (count_of x i); count = count_of x i }

  same_standing : (s : Standing) (q : Place) (n : ℕ) → s.place ≡ q → s.count ≡ n → s ≡ record { place = q; count = n }
  same_standing s q n e f = ap (λ (x : Place). record { place = x; count = s.count }) e ∙ ap (λ (x : ℕ). record { place = q; count = x }) f

  here_is : configuration_at p (c m) ≡ at m
  here_is = ext_get_or (standing_at [] 0) (configuration_at p (c m)) (at m) (length-map-range_with_len (stands (c m)) 0 (length p) ∙ sym (length-run p holds m)) (λ i l.
      let a : i < length p = omega (arith, length-map-range_with_len (stands (c m)) 0 (length p)) in
      let n : count_at (at m) i ≡ count_of (c m) i = counts_are m (omega arith) i in
      get_or-map-range_with_len (stands (c m)) 0 (length p) i i (standing_at [] 0) a (omega arith)
      ∙ sym (same_standing (standing_at (at m) i) _ _ (run_place p holds m i a ∙ ap (path p i) n) n))

  finished_is : is_all_done p (c m) ≡ is_finished p (at m)
  finished_is = all_same (indices (length p))
    where
      all_same : (xs : List ℕ) → list_all (λ i. nat_le (moves p i) (count_of (c m) i)) xs ≡ list_all (λ i. nat_le (moves p i) (count_at (at m) i)) xs
      all_same [] = refl
      all_same (x ∷ xs) = cc (counts_are m (omega arith) x, all_same xs)

  answers_ready : (t : ℕ) → t < m → AreAllReady p (at t) (is_among (movers p (c t) (get_or reports t [])))
  answers_ready t l i a named =
      let is : is_among (movers p (c t) (get_or reports t [])) i ≡ nat_lt (count_of (c t) i) (count_of (counts_after (c t) (get_or reports t [])) i) =
      agents_held (length p) (λ j. nat_lt (count_of (c t) j) (count_of (counts_after (c t) (get_or reports t [])) j)) i a in
      let more : count_of (c t) i < count_of (c (t + 1)) i =
      rw (next p 1 reports taken t l) (ltb-true _ _ (sym is ∙ named)) in
      ready_from p (at t) i (told_ready t i (omega arith) a (counts_are t (omega arith)) (omega (arith, limited p 1 reports taken t i l)))

  pub as_run : (form : ReportForm) → IsRun p form reports
  as_run form =
      let all : c m ≡ counts_by (none_done p) reports = ap (counts_by (none_done p)) (take_all m reports (omega arith)) in
      record {
        here = ap (configuration_at p) (sym all) ∙ here_is;
        finished = ap (is_all_done p) (sym all) ∙ finished_is;
        answers = answers_ready;
        orders = ap (λ (x : Counts). new_orders p form (told_by p 1 (none_done p) (none_done p) reports) (told_at p 1 x)) (sym all) ∙ due_orders form m refl;
      }
