-- Robots that are led by the orders and reports of a dispatch.
use Rattle.fleet_dispatch.proofs.Cited.{◌≡◌, ℕ, zero, suc, ◌+◌, ◌-◌, ◌<◌, ◌≤◌, ◌⊎◌, Bool, true, false, List, [], ◌∷◌, length, get_or, take, replicate, Option, Some, None, refl, ap, sym, ◌∙◌, subst, arith, inl, inr, add-one, add-zero, le-leb, leb-true, lt-ltb, option_map, IsTrue, nat_le, position, position_or_len, cases_lt, and_parts, same_Some, take_more, get_or-replicate, length-replicate, get_or_past, length-range_with_len, get_or-range_with_len, position-Some, fails_before_first, Place, ActionId, Task, ComesAfterByChain, IsAcceptedBy, Program, moves, AreInRange, indices, IsAction, DirectlyNeeds, awaited, Schedule, IsBy, IsSchedule, OrdersAwait, IsCarriedOut, IsPrompt, no_two_on, ahead_schedule, ahead_in_time, Reported, Words, Counts, count_of, counts_after, told_to, AreDone, MayBeTold, counts_by, MayBeTaken, AreTaken, none_done, counts_at, is_told_by, is_done_by, may_begin_by, first_time, dispatch_of, schedule_of, NeverFalls, IsSafelyLed, OrdersAtOnce, LeadsInTime}
use Rattle.fleet_dispatch.proofs.Telling.{told_may, told_cannot}
use Rattle.fleet_dispatch.proofs.Reports.{counts_more}
use Rattle.fleet_dispatch.proofs.Words.{length_after, after_grows, after_bounded}

-- ---- the first number that passes a test

pub first_in : (test : ℕ → Bool) (n t : ℕ) → t < n → test t ≡ true → (u : ℕ) × (position test (indices n) ≡ Some u) × (u ≤ t)
first_in test n t l e = go (cases_lt t (position_or_len test (indices n)))
  where
    long : length (indices n) ≡ n
    long = length-range_with_len 0 n

    go : (t < position_or_len test (indices n)) ⊎ (position_or_len test (indices n) ≤ t) → (u : ℕ) × (position test (indices n) ≡ Some u) × (u ≤ t)
    go (inl below) =
        let no : test (get_or (indices n) t 0) ≡ false = fails_before_first test (indices n) t 0 below in
        let at : get_or (indices n) t 0 ≡ t = get_or-range_with_len 0 n t 0 l ∙ omega arith in
        absurd (cc (no, ap test at, e))
    go (inr le) =
        let inside : position_or_len test (indices n) < length (indices n) = omega (arith, long) in
        (position_or_len test (indices n), rw (lt-ltb _ _ inside) refl, le)

pub passes : (test : ℕ → Bool) (n u : ℕ) → position test (indices n) ≡ Some u → (u < n) × (test u ≡ true)
passes test n u e =
    let s = position-Some test (indices n) u 0 e in
    let l : u < n = omega (arith, s.0, length-range_with_len 0 n) in
    let at : get_or (indices n) u 0 ≡ u = get_or-range_with_len 0 n u 0 l ∙ omega arith in
    (l, ap test (sym at) ∙ s.1)

-- a time that a clock says of a number
pub timed : (clock : ℕ → ℕ) (o : Option ℕ) (t : ℕ) → option_map clock o ≡ Some t → (u : ℕ) × (o ≡ Some u) × (clock u ≡ t)
timed clock None t e = absurd cc
timed clock (Some u) t e = (u, refl, same_Some (clock u) t e)

module _ (clock : ℕ → ℕ) (reports : List Words) (test : ℕ → Bool) where
  time_is : (x : ℕ) → first_time clock reports test ≡ Some x → (u : ℕ) × (u ≤ length reports) × (clock u ≡ x) × (test u ≡ true)
  time_is x e =
      let s = timed clock (position test (indices (length reports + 1))) x e in
      let at = passes test (length reports + 1) s.0 s.1 in
      (s.0, omega (arith, at.0), s.2, at.1)

  time_by : NeverFalls clock → (u x : ℕ) → u ≤ length reports → clock u ≤ x → test u ≡ true → IsBy (first_time clock reports test) x
  time_by never_falls u x le l e =
      let f = first_in test (length reports + 1) u (omega arith) e in
      (clock f.0, ap (option_map clock) f.1, omega (arith, l, never_falls f.0 u f.2))

-- ---- what is carried out after each report

taken_at : (p : Program) (k : ℕ) (counts : Counts) (reports : List Words) (t : ℕ) → AreTaken p k counts reports → t < length reports
    → MayBeTaken p k (counts_by counts (take t reports)) (get_or reports t [])
taken_at p k counts [] t taken l = absurd (omega arith)
taken_at p k counts (r ∷ reports) zero taken l = taken.0
taken_at p k counts (r ∷ reports) (suc t) taken l = taken_at p k (counts_after counts r) reports t taken.1 (omega arith)

module _ (p : Program) (k : ℕ) (reports : List Words) (taken : AreTaken p k (none_done p) reports) where
  abbrev m : ℕ
  m = length reports

  abbrev c : ℕ → Counts
  c t = counts_at p reports t

  abbrev told : ℕ → ℕ → ℕ
  told t i = told_to p k (counts_at p reports t) i

  pub next : (t : ℕ) → t < m → c (t + 1) ≡ counts_after (c t) (get_or reports t [])
  next t l = ap (counts_by (none_done p)) (take_more reports t [] l) ∙ counts_more (none_done p) (take t reports) (get_or reports t [])

  may : (t : ℕ) → t < m → MayBeTaken p k (c t) (get_or reports t [])
  may t l = taken_at p k (none_done p) reports t taken l

  pub none_first : (i : ℕ) → count_of (c 0) i ≡ 0
  none_first i = elim (cases_lt i (length p)) [
    | inl l ↦ get_or-replicate (length p) i 0 0 l
    | inr le ↦ get_or_past (replicate (length p) 0) i 0 (omega (arith, length-replicate {A = ℕ} (length p) 0))
  ]

  pub long : (t : ℕ) → t ≤ m → length (c t) ≡ length p
  long zero le = length-replicate (length p) 0
  long (suc t) le =
      ap (λ u. length (c u)) (sym (add-one t)) ∙ ap length (next t (omega arith)) ∙ length_after (c t) (get_or reports t []) ∙ long t (omega arith)

  pub grows : (t i : ℕ) → t < m → count_of (c t) i ≤ count_of (c (t + 1)) i
  grows t i l = omega (arith, after_grows (c t) (get_or reports t []) i, ap (λ (x : Counts). count_of x i) (next t l))

  -- no agent has carried out more than it was told
  pub told_low : (t i : ℕ) → count_of (c t) i ≤ told t i
  unfolding told_to
  told_low t i = omega arith

  pub limited : (t i : ℕ) → t < m → count_of (c (t + 1)) i ≤ told t i
  limited t i l =
      let n = may t l in
      let said = λ (j : ℕ) (d : Reported) (inside : j < length (get_or reports t [])). (n.ordered j d inside).told in
      omega (arith, after_bounded (c t) (get_or reports t []) n.rising (told t) said (told_low t) i, ap (λ (x : Counts). count_of x i) (next t l))

  pub within : (t i : ℕ) → t ≤ m → i < length p → count_of (c t) i ≤ moves p i
  within zero i le a = omega (arith, none_first i)
  within (suc t) i le a =
      let before = told_may p k (c t) i (within t i (omega arith) a) in
      let high = before.within in
      omega (arith, limited t i (omega arith), ap (λ u. count_of (c u) i) (add-one t))

  pub may_told : (t i : ℕ) → t ≤ m → i < length p → MayBeTold p k (c t) i (told t i)
  may_told t i le a = told_may p k (c t) i (within t i le a)

  pub met_later : (t i n : ℕ) → t < m → AreDone p (c t) i n → AreDone p (c (t + 1)) i n
  met_later t i n l met w h = omega (arith, met w h, grows t w.agent l)

  -- what is told needs only what is carried out
  pub told_needs : (t i n : ℕ) → t ≤ m → i < length p → 1 ≤ n → n ≤ told t i → AreDone p (c t) i n
  told_needs zero i n le a some low = (may_told 0 i le a).met n (omega (arith, none_first i)) low
  told_needs (suc t) i n le a some low = elim (cases_lt (count_of (c (suc t)) i) n) [
    | inl new ↦ (may_told (suc t) i le a).met n new low
    | inr old ↦ (
        let before : AreDone p (c t) i n = told_needs t i n (omega arith) a some (omega (arith, limited t i (omega arith), ap (λ u. count_of (c u) i) (add-one t))) in
        subst (λ u. AreDone p (c u) i n) (add-one t) (met_later t i n (omega arith) before))
  ]

  grows_to : (i u d : ℕ) → u + d ≤ m → count_of (c u) i ≤ count_of (c (u + d)) i
  grows_to i u zero le = omega (arith, ap (λ t. count_of (c t) i) (add-zero u))
  grows_to i u (suc d) le =
      let same : u + d + 1 ≡ u + suc d = omega arith in
      omega (arith, grows_to i u d (omega arith), grows (u + d) i (omega arith), ap (λ t. count_of (c t) i) same)

  pub grown : (i u v : ℕ) → u ≤ v → v ≤ m → count_of (c u) i ≤ count_of (c v) i
  grown i u v le high =
      let same : u + (v - u) ≡ v = omega arith in
      omega (arith, grows_to i u (v - u) (omega arith), ap (λ t. count_of (c t) i) same)

  -- an action is told once all that it directly needs is carried out
  pub due_told : AreInRange p → 1 ≤ k → (a : ActionId) → IsAction p a → (u : ℕ) → u ≤ m → ((b : ActionId) → DirectlyNeeds p a b → b.number ≤ count_of (c u) b.agent) → a.number ≤ told u a.agent
  due_told in_range some a act u le done = elim (cases_lt (told u a.agent) a.number) [
    | inr enough ↦ enough
    | inl less ↦ absurd (
        let own : a.number ≤ count_of (c u) a.agent + 1 = elim (cases_lt 1 a.number) [
          | inr one ↦ omega arith
          | inl more ↦ (let prior : a.number - 1 ≤ count_of (c u) a.agent = done (record { agent = a.agent; number = a.number - 1 }) (inl (refl, omega arith, omega arith)) in omega arith)
        ] in
        let at : told u a.agent + 1 ≡ a.number = omega (arith, told_low u a.agent) in
        let last : a.number ≤ moves p a.agent = act.last in
        (told_cannot p k (c u) a.agent (within u a.agent le act.agent)).stop (omega arith) (omega (arith, told_low u a.agent))
        (subst (AreDone p (c u) a.agent) (sym at) (λ w mem. done (awaited w) (inr mem))))
  ]

  -- ---- by a clock

  module _ (clock : ℕ → ℕ) (never_falls : NeverFalls clock) where
    pub done_by : (b : ActionId) (u x : ℕ) → u ≤ m → clock u ≤ x → b.number ≤ count_of (c u) b.agent → IsBy ((dispatch_of clock p k reports).reports b) x
    unfolding dispatch_of
    done_by b u x le l done = time_by clock reports (is_done_by p reports b) never_falls u x le l (le-leb _ _ done)

    pub told_by_time : (a : ActionId) (u x : ℕ) → u ≤ m → clock u ≤ x → a.number ≤ told u a.agent → IsBy ((dispatch_of clock p k reports).orders a) x
    unfolding dispatch_of
    told_by_time a u x le l low = time_by clock reports (is_told_by p k reports a) never_falls u x le l (le-leb _ _ low)

    pub order_is : (a : ActionId) (x : ℕ) → (dispatch_of clock p k reports).orders a ≡ Some x → (u : ℕ) × (u ≤ m) × (clock u ≡ x) × (a.number ≤ told u a.agent)
    unfolding dispatch_of
    order_is a x e =
        let s = time_is clock reports (is_told_by p k reports a) x e in
        (s.0, s.1, s.2, leb-true _ _ s.3)

    pub report_is : (a : ActionId) (x : ℕ) → (dispatch_of clock p k reports).reports a ≡ Some x → (u : ℕ) × (u ≤ m) × (clock u ≡ x) × (a.number ≤ count_of (c u) a.agent)
    unfolding dispatch_of
    report_is a x e =
        let s = time_is clock reports (is_done_by p reports a) x e in
        (s.0, s.1, s.2, leb-true _ _ s.3)

    pub orders_await : OrdersAwait p (dispatch_of clock p k reports)
    orders_await a w x act mem e =
        let o = order_is a x e in
        done_by (awaited w) o.0 x o.1 (omega (arith, o.2)) (told_needs o.0 a.agent a.number o.1 act.agent act.first o.3 w mem)

    -- robots may begin each action when they may, and end it when that is reported
    pub obeyed : IsCarriedOut p (dispatch_of clock p k reports) (schedule_of clock p k reports)
    unfolding dispatch_of schedule_of
    obeyed = record {
      ordered_first = λ a x act e.
          let s = time_is clock reports (may_begin_by p k reports a) x e in
          let both = and_parts (is_told_by p k reports a s.0) (nat_le a.number (count_of (c s.0) a.agent + 1)) s.3 in
          time_by clock reports (is_told_by p k reports a) never_falls s.0 x s.1 (omega (arith, s.2)) both.0;
      in_turn = λ a b x act actb same number e.
          let s = time_is clock reports (may_begin_by p k reports a) x e in
          let both = and_parts (is_told_by p k reports a s.0) (nat_le a.number (count_of (c s.0) a.agent + 1)) s.3 in
          let there : count_of (c s.0) a.agent ≡ count_of (c s.0) b.agent = ap (count_of (c s.0)) same in
          time_by clock reports (is_done_by p reports b) never_falls s.0 x s.1 (omega (arith, s.2)) (le-leb _ _ (omega (arith, leb-true _ _ both.1, number, there)));
      begins_first = λ a x act e.
          let s = time_is clock reports (is_done_by p reports a) x e in
          let done : a.number ≤ count_of (c s.0) a.agent = leb-true _ _ s.3 in
          let is_told : is_told_by p k reports a s.0 ≡ true = le-leb _ _ (omega (arith, done, told_low s.0 a.agent)) in
          let is_next : nat_le a.number (count_of (c s.0) a.agent + 1) ≡ true = le-leb _ _ (omega arith) in
          time_by clock reports (may_begin_by p k reports a) never_falls s.0 x s.1 (omega (arith, s.2)) (rw (is_told, is_next) refl);
      ends_first = λ a x act e. (x, e, omega arith);
    }

    -- so many reports are taken by a time, and the next only later
    abbrev TakenBy : ℕ → ℕ → Type 0
    TakenBy x n = (u : ℕ) × (u ≤ n) × (clock u ≤ x) × ((v : ℕ) → v ≤ n → clock v ≤ x → v ≤ u)

    taken_by_time : (x n : ℕ) → clock 0 ≤ x → TakenBy x n
    taken_by_time x zero l = (0, omega arith, l, λ v le e. le)
    taken_by_time x (suc n) l = go (cases_lt x (clock (suc n))) (taken_by_time x n l)
      where
        go : (x < clock (suc n)) ⊎ (clock (suc n) ≤ x) → TakenBy x n → TakenBy x (suc n)
        go (inr le) before = (suc n, omega arith, le, λ v in_reach e. in_reach)
        go (inl late) before = (
          before.0,
          omega (arith, before.1),
          before.2,
          λ v le e. elim (cases_lt n v) [
            | inr small ↦ before.3 v small e
            | inl last ↦ absurd (let is : v ≡ suc n = omega arith in omega (arith, e, ap clock is))
          ],
        )

    pub at_once : AreInRange p → 1 ≤ k → OrdersAtOnce p (dispatch_of clock p k reports) (clock 0)
    at_once in_range some a x act start needs =
        let u = taken_by_time x m start in
        let done : (b : ActionId) → DirectlyNeeds p a b → b.number ≤ count_of (c u.0) b.agent =
        λ b need.
        let r = needs b need in
        let v = report_is b r.0 r.1 in
        omega (arith, v.3, grown b.agent v.0 u.0 (u.3 v.0 v.1 (omega (arith, v.2, r.2))) u.1) in
        told_by_time a u.0 x u.1 u.2 (due_told in_range some a act u.0 u.1 done)

-- ---- whatever robots do that are led so is a schedule

pub safely_led : (passable : Place → Bool) (tasks : List Task) (p : Program) → IsAcceptedBy ComesAfterByChain passable tasks p → (clock : ℕ → ℕ) (k : ℕ) (reports : List Words) → NeverFalls clock
    → AreTaken p k (none_done p) reports → IsSafelyLed passable p (dispatch_of clock p k reports)
safely_led passable tasks p ok clock k reports never_falls taken = record {
  awaits = await;
  schedule = schedule;
  safe = λ s done. record {
    apart = λ x i j q l m. no_two_on p s (schedule s done) x ok.orderly i j q l m;
    on_ground = λ x i q l m. subst (λ (r : Place). IsTrue (passable r)) m.place (ok.right.on_ground i m.position l m.within);
  };
}
  where
    await : OrdersAwait p (dispatch_of clock p k reports)
    await = orders_await p k reports taken clock never_falls

    schedule : (s : Schedule) → IsCarriedOut p (dispatch_of clock p k reports) s → IsSchedule p s
    schedule s done = ahead_schedule p ok.right.in_range (dispatch_of clock p k reports) s await done

pub carried_out : (p : Program) (clock : ℕ → ℕ) (k : ℕ) (reports : List Words) → NeverFalls clock → AreTaken p k (none_done p) reports
    → IsCarriedOut p (dispatch_of clock p k reports) (schedule_of clock p k reports)
carried_out p clock k reports never_falls taken = obeyed p k reports taken clock never_falls

pub ordered_at_once : (p : Program) → AreInRange p → (clock : ℕ → ℕ) (k : ℕ) (reports : List Words) → 1 ≤ k → NeverFalls clock → AreTaken p k (none_done p) reports
    → OrdersAtOnce p (dispatch_of clock p k reports) (clock 0)
ordered_at_once p in_range clock k reports some never_falls taken = at_once p k reports taken clock never_falls in_range some

-- ---- they end in time

pub led_in_time : (p : Program) → AreInRange p → (clock : ℕ → ℕ) (k : ℕ) (reports : List Words) → NeverFalls clock → AreTaken p k (none_done p) reports → clock 0 ≡ 0 → 1 ≤ k
    → LeadsInTime p (dispatch_of clock p k reports)
led_in_time p in_range clock k reports never_falls taken begins some s stalls report_lag takes timely a t act goes ended =
    let d = dispatch_of clock p k reports in
    let prompt : IsPrompt p d s stalls report_lag 0 takes = record {
      timely = timely;
      orders = λ b x is _ needs. (let order = ordered_at_once p in_range clock k reports some never_falls taken b x is (omega (arith, begins)) needs in (order.0, order.1, omega (arith, order.2)));
    } in
    let end = ahead_in_time p in_range d s stalls report_lag 0 takes prompt a t act goes ended in
    (end.0, end.1, omega (arith, end.2))
