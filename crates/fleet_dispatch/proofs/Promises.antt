-- What is promised of a dispatch, by what is carried out after its reports.
use Rattle.fleet_dispatch.proofs.Cited.{◌≡◌, ◌≢◌, ℕ, zero, suc, ◌+◌, ◌-◌, ◌<◌, ◌≤◌, ◌++◌, Bool, true, false, cond, List, [], ◌∷◌, length, get_or, sum_by, Option, Some, None, All, refl, ap, sym, ◌∙◌, subst, arith, inl, inr, add-zero, le-leb, leb-true, leb-false, ltb-true, eq-eqb, take_all, IsTrue, nat_le, nat_lt, ◌==◌, if◌then◌else◌, option_map_or, cases_lt, cases_eq, ne_eqb, get_or_past, length-range_with_len, get_or-range_with_len, get_or-map-range_with_len, Any-from_list_any, sum_by-le-sum_by, AllPass-from_list_all, Place, ActionId, Standing, Task, place_of, ComesAfterByChain, IsAcceptedBy, Program, origin, moves, total_moves, path, indices, IsAction, Schedule, IsBy, MayBeOnAt, IsCarriedOut, fails_at, never_stuck, sum_rises, sum_of_moves, Reported, Words, Counts, count_of, said_of, raised, counts_after, Line, words_in, told_to, told_at, is_all_done, new_orders, AreDone, Course, counts_by, told_by, taken_by, reports_in, counts_now, AreTaken, AreHeard, none_done, counts_at, dispatch_of, MayBeOnOrder, Arrive, is_news, news_by, LeadsWell, resumed, SaysAlike}
use Rattle.fleet_dispatch.proofs.Telling.{told_cannot}
use Rattle.fleet_dispatch.proofs.Words.{length_after, length_raised, raised_here, raised_grows, after_grows}
use Rattle.fleet_dispatch.proofs.Leading.{told_low, within, may_told, met_later, told_needs, grows, long, grown, due_told, told_by_time, report_is, safely_led, led_in_time}

-- ---- schedules in which each agent has carried out so many actions and begun no more, at once

abbrev upto : (ℕ → ℕ) → ActionId → Option ℕ
upto n a = if nat_le a.number (n a.agent) then Some 0 else None

abbrev standing : (ℕ → ℕ) → Schedule
standing n = record { begins = upto n; ends = upto n }

upto_is : (n : ℕ → ℕ) (a : ActionId) (t : ℕ) → upto n a ≡ Some t → a.number ≤ n a.agent
upto_is n a t e = go (nat_le a.number (n a.agent)) refl
  where
    go : (b : Bool) → nat_le a.number (n a.agent) ≡ b → a.number ≤ n a.agent
    go true f = leb-true _ _ f
    go false f = absurd (let none : ◌≡◌ {A = Option ℕ} None (Some t) = sym (ap (λ b. cond b (Some 0) None) f) ∙ e in cc)

by_upto : (n : ℕ → ℕ) (a : ActionId) (t : ℕ) → a.number ≤ n a.agent → IsBy (upto n a) t
by_upto n a t l = (0, ap (λ b. cond b (Some 0) None) (le-leb _ _ l), omega arith)

module _ (p : Program) (k : ℕ) (reports : List Words) (taken : AreTaken p k (none_done p) reports) where
  abbrev m : ℕ
  m = length reports

  abbrev c : Counts
  c = counts_at p reports (length reports)

  abbrev told : ℕ → ℕ
  told i = told_to p k (counts_at p reports (length reports)) i

  -- ---- no order is taken back

  told_next : (t i : ℕ) → t < m → i < length p → told_to p k (counts_at p reports t) i ≤ told_to p k (counts_at p reports (t + 1)) i
  told_next t i l a = elim (cases_lt (told_to p k (counts_at p reports (t + 1)) i) (told_to p k (counts_at p reports t) i)) [
    | inr le ↦ le
    | inl less ↦ absurd (
        let n : ℕ = told_to p k (counts_at p reports (t + 1)) i in
        let before = may_told p k reports taken t i (omega arith) a in
        let room : told_to p k (counts_at p reports t) i ≤ moves p i = before.within in
        let few : told_to p k (counts_at p reports t) i ≤ count_of (counts_at p reports t) i + k = before.few in
        let done : AreDone p (counts_at p reports (t + 1)) i (n + 1) =
        met_later p k reports taken t i (n + 1) l (told_needs p k reports taken t i (n + 1) (omega arith) a (omega arith) (omega (arith, less))) in
        (told_cannot p k (counts_at p reports (t + 1)) i (within p k reports taken (t + 1) i (omega arith) a)).stop
        (omega (arith, room, less)) (omega (arith, few, less, grows p k reports taken t i l)) done)
  ]

  told_rises : (i t d : ℕ) → i < length p → t + d ≤ m → told_to p k (counts_at p reports t) i ≤ told_to p k (counts_at p reports (t + d)) i
  told_rises i t zero a le = omega (arith, ap (λ u. told_to p k (counts_at p reports u) i) (add-zero t))
  told_rises i t (suc d) a le =
      let same : t + d + 1 ≡ t + suc d = omega arith in
      omega (arith, told_rises i t d a (omega arith), told_next (t + d) i (omega arith) a, ap (λ u. told_to p k (counts_at p reports u) i) same)

  pub once : (t u i : ℕ) → t ≤ u → u ≤ m → i < length p → told_to p k (counts_at p reports t) i ≤ told_to p k (counts_at p reports u) i
  once t u i le high a =
      let same : t + (u - t) ≡ u = omega arith in
      omega (arith, told_rises i t (u - t) a (omega arith), ap (λ v. told_to p k (counts_at p reports v) i) same)

  -- ---- where agents may be

  module _ (n : ℕ → ℕ) (high : (i : ℕ) → i < length p → count_of c i ≤ n i) (low : (i : ℕ) → i < length p → n i ≤ told i) where
    stands : IsCarriedOut p (dispatch_of (λ t. 0) p k reports) (standing n)
    stands = record {
      ordered_first = λ a t act e.
          told_by_time p k reports taken (λ u. 0) (λ u v l. omega arith) a m t (omega arith) (omega arith) (omega (arith, upto_is n a t e, low a.agent act.agent));
      in_turn = λ a b t act actb same number e. by_upto n b t (omega (arith, upto_is n a t e, number, ap n same));
      begins_first = λ a t act e. (t, e, omega arith);
      ends_first = λ a t act e.
          let r = report_is p k reports taken (λ u. 0) (λ u v l. omega arith) a t e in
          by_upto n a t (omega (arith, r.3, grown p k reports taken a.agent r.0 m r.1 (omega arith), high a.agent act.agent));
    }

    on_it : (i : ℕ) (q : Place) → i < length p → path p i (n i) ≡ q → MayBeOnAt p (standing n) 0 i q
    on_it i q a e = record {
      position = n i;
      within = omega (arith, low i a, (may_told p k reports taken m i (omega arith) a).within);
      place = e;
      entered = λ f. by_upto n (record { agent = i; number = n i }) 0 (omega arith);
      not_left = λ l h. (let f = upto_is n (record { agent = i; number = n i + 1 }) h.0 h.1 in omega (arith, f));
    }

  module _ (i j : ℕ) (ne : i ≢ j) (u v : ℕ) where
    abbrev both : ℕ → ℕ
    both a = if a == i then u else (if a == j then v else count_of c a)

    both_first : both i ≡ u
    both_first = rw (eq-eqb i i refl) refl

    both_second : both j ≡ v
    both_second = rw (ne_eqb j i (λ e. ne (sym e)), eq-eqb j j refl) refl

    both_other : (a : ℕ) → a ≢ i → a ≢ j → both a ≡ count_of c a
    both_other a x y = rw (ne_eqb a i x, ne_eqb a j y) refl

    both_between : (bound : ℕ → ℕ → Type 0) → bound i u → bound j v → ((a : ℕ) → a < length p → bound a (count_of c a)) → (a : ℕ) → a < length p → bound a (both a)
    both_between bound x y z a l = elim (cases_eq a i) [
      | inl e ↦ subst (λ b. bound b (both b)) (sym e) (subst (bound i) (sym both_first) x)
      | inr x' ↦ elim (cases_eq a j) [
        | inl e ↦ subst (λ b. bound b (both b)) (sym e) (subst (bound j) (sym both_second) y)
        | inr y' ↦ subst (bound a) (sym (both_other a x' y')) (z a l)
      ]
    ]

  module _ (passable : Place → Bool) (tasks : List Task) (ok : IsAcceptedBy ComesAfterByChain passable tasks p) where
    pub apart : (i j : ℕ) (q : Place) → i < length p → j < length p → i ≢ j → MayBeOnOrder p k c i q → MayBeOnOrder p k c j q → ⊥
    apart i j q hi hj ne x y =
        let n : ℕ → ℕ = both i j ne x.number y.number in
        let high : (a : ℕ) → a < length p → count_of c a ≤ n a = both_between i j ne x.number y.number (λ a b. count_of c a ≤ b) x.reported y.reported (λ a l. omega arith) in
        let low : (a : ℕ) → a < length p → n a ≤ told a = both_between i j ne x.number y.number (λ a b. b ≤ told a) x.told y.told (λ a l. told_low p k reports taken m a) in
        let led = safely_led passable tasks p ok (λ t. 0) k reports (λ u v l. omega arith) taken in
        (led.safe (standing n) (stands n high low)).apart 0 i j q hi hj ne
        (on_it n high low i q hi (ap (path p i) (both_first i j ne x.number y.number) ∙ x.place))
        (on_it n high low j q hj (ap (path p j) (both_second i j ne x.number y.number) ∙ y.place))

    pub on_ground : (i : ℕ) (q : Place) → i < length p → MayBeOnOrder p k c i q → IsTrue (passable q)
    on_ground i q l x =
        subst (λ (r : Place). IsTrue (passable r)) x.place (ok.right.on_ground i x.number l (omega (arith, x.told, (may_told p k reports taken m i (omega arith) l).within)))

    -- ---- some agent has an order

    pub goes_on : 1 ≤ k → is_all_done p c ≡ false → (i : ℕ) × (i < length p) × (count_of c i < told i)
    goes_on some e =
        let f = fails_at (λ i. nat_le (moves p i) (count_of c i)) (indices (length p)) e in
        let inside : f.1.0 < length p = omega (arith, f.1.1, length-range_with_len 0 (length p)) in
        let at : f.1.0 ≡ f.0 = omega (arith, f.1.2, get_or-range_with_len 0 (length p) f.1.0 f.0 inside) in
        let left : count_of c f.0 < moves p f.0 = leb-false _ _ f.2 in
        let b : ActionId = record { agent = f.0; number = count_of c f.0 + 1 } in
        let act : IsAction p b = record { agent = omega (arith, at, inside); first = omega arith; last = omega (arith, left) } in
        let r = never_stuck p (standing (count_of c)) 0 ok.right.in_range ok.numbering.0 ok.numbering.1 b act
        (λ h. let g = upto_is (count_of c) b h.0 h.1 in omega (arith, g)) in
        let high = due_told p k reports taken ok.right.in_range some r.0 r.1 m (omega arith)
        (λ d need. let h = r.3 d need in upto_is (count_of c) d h.0 h.1) in
        let agent : r.0.agent < length p = r.1.agent in (
          r.0.agent,
          agent,
          elim (cases_lt (count_of c r.0.agent) r.0.number) [
            | inl l ↦ omega (arith, l, high)
            | inr le ↦ absurd (r.2 (by_upto (count_of c) r.0 0 le))
          ],
        )

    -- ---- at the end

    pub on_goals : ((i : ℕ) → i < length p → count_of c i ≡ moves p i) → Arrive p c
    on_goals done i a =
        let at : ℕ → Standing = λ j. record { place = path p j (count_of c j); count = count_of c j } in
        ap (λ (s : Standing). s.place) (get_or-map-range_with_len at 0 (length p) i i (record { place = place_of origin; count = 0 }) a (omega arith))
        ∙ ap (path p i) (done i a) ∙ ok.right.arrives i a

    pub arrives : is_all_done p c ≡ true → Arrive p c
    arrives done = on_goals (λ i a.
        let at : get_or (indices (length p)) i 0 ≡ i = get_or-range_with_len 0 (length p) i 0 a ∙ omega arith in
        let each = AllPass-from_list_all (λ j. nat_le (moves p j) (count_of c j)) (indices (length p)) done i 0 (omega (arith, length-range_with_len 0 (length p))) in
        let high : moves p i ≤ count_of c i = leb-true _ _ (subst (λ x. nat_le (moves p x) (count_of c x) ≡ true) at each) in
        omega (arith, high, within p k reports taken m i (omega arith) a))

-- ---- each report that says something new ends an action

-- an agent has carried out what a word says of it
said_more : (a b : Counts) (w : Reported) → count_of a w.agent ≤ count_of b w.agent → said_of a w ≤ said_of b w
said_more a b w l = by_number w.number
  where
    by_number : (o : Option ℕ) → option_map_or (λ n. n) o (count_of a w.agent + 1) ≤ option_map_or (λ n. n) o (count_of b w.agent + 1)
    by_number None = omega (arith, l)
    by_number (Some n) = omega arith

reaches : (counts : Counts) (words : Words) → All (λ w. w.agent < length counts) words → All (λ w. said_of counts w ≤ count_of (counts_after counts words) w.agent) words
reaches counts [] agents j d l = absurd (omega arith)
reaches counts (w ∷ words) agents zero d l =
    let inside : w.agent < length counts = agents 0 w (omega arith) in
    let after = after_grows (raised counts w.agent (said_of counts w)) words w.agent in
    elim (raised_here counts w.agent (said_of counts w) inside) [
      | inl x ↦ omega (arith, x.0, after)
      | inr x ↦ omega (arith, x.0, x.1, after)
    ]
reaches counts (w ∷ words) agents (suc j) d l =
    let next : Counts = raised counts w.agent (said_of counts w) in
    let rest = reaches next words (λ i x s. omega (arith, agents (suc i) x (omega arith), length_raised counts w.agent (said_of counts w))) j d (omega arith) in
    omega (arith, rest, said_more counts next (get_or words j d) (raised_grows counts w.agent (said_of counts w) (get_or words j d).agent))

abbrev total : Program → Counts → ℕ
total p counts = sum_by (count_of counts) (indices (length p))

one_more : (p : Program) (counts : Counts) (r : Words) → length counts ≡ length p → All (λ w. w.agent < length p) r → (b : Bool) → is_news counts r ≡ b → total p counts + cond b 1 0 ≤ total p (counts_after counts r)
one_more p counts r size agents false e = omega (arith, sum_by-le-sum_by (count_of counts) (count_of (counts_after counts r)) (indices (length p)) (λ i. after_grows counts r i))
one_more p counts r size agents true e =
    let w = Any-from_list_any (λ w. nat_lt (count_of counts w.agent) (said_of counts w)) r e in
    let inside : w.1.agent < length p = subst (λ (x : Reported). x.agent < length p) w.3 (agents w.0 w.1 w.2) in
    let more : count_of counts w.1.agent < said_of counts w.1 = ltb-true _ _ w.4 in
    let said : said_of counts w.1 ≤ count_of (counts_after counts r) w.1.agent =
    subst (λ (x : Reported). said_of counts x ≤ count_of (counts_after counts r) x.agent) w.3 (reaches counts r (λ i x l. omega (arith, agents i x l, size)) w.0 w.1 w.2) in
    sum_rises (count_of counts) (count_of (counts_after counts r)) 0 (length p) w.1.agent (λ i. after_grows counts r i) (omega arith) (omega (arith, inside)) (omega (arith, more, said))

ended : (p : Program) (k : ℕ) (counts : Counts) (reports : List Words) → length counts ≡ length p → AreTaken p k counts reports → total p counts + news_by counts reports ≤ total p (counts_by counts reports)
ended p k counts [] size taken = omega arith
ended p k counts (r ∷ reports) size taken =
    let first = one_more p counts r size (λ i w l. (taken.0.ordered i w l).agent) (is_news counts r) refl in
    omega (arith, first, ended p k (counts_after counts r) reports (length_after counts r ∙ size) taken.1)

module _ (p : Program) (k : ℕ) (reports : List Words) (taken : AreTaken p k (none_done p) reports) where
  abbrev now : Counts
  now = counts_by (none_done p) reports

  all_now : counts_at p reports (length reports) ≡ counts_by (none_done p) reports
  all_now = ap (counts_by (none_done p)) (take_all (length reports) reports (omega arith))

  bounded : (i : ℕ) → count_of now i ≤ moves p i
  bounded i = elim (cases_lt i (length p)) [
    | inl a ↦ omega (arith, within p k reports taken (length reports) i (omega arith) a, ap (λ (x : Counts). count_of x i) all_now)
    | inr past ↦ (
        let size : length now ≡ length p = ap length (sym all_now) ∙ long p k reports taken (length reports) (omega arith) in
        let none : count_of now i ≡ 0 = get_or_past now i 0 (omega (arith, size)) in
        omega arith)
  ]

  news_ended : news_by (none_done p) reports ≤ total p now
  news_ended = omega (arith, ended p k (none_done p) reports (long p k [] tt 0 (omega arith)) taken)

  few : news_by (none_done p) reports ≤ total_moves p
  few = omega (arith, news_ended, sum_of_moves p, sum_by-le-sum_by (count_of now) (moves p) (indices (length p)) bounded)

  all_ended : news_by (none_done p) reports ≡ total_moves p → (i : ℕ) → i < length p → count_of now i ≡ moves p i
  all_ended as_many i a = elim (cases_lt (count_of now i) (moves p i)) [
    | inr le ↦ omega (arith, le, bounded i)
    | inl less ↦ absurd (
        let most = sum_rises (count_of now) (moves p) 0 (length p) i bounded (omega arith) (omega arith) (omega (arith, less)) in
        omega (arith, as_many, news_ended, most, sum_of_moves p))
  ]

  pub leads_well : (passable : Place → Bool) (tasks : List Task) → IsAcceptedBy ComesAfterByChain passable tasks p → LeadsWell passable p k reports
  leads_well passable tasks ok = record {
    safely = λ clock never_falls. safely_led passable tasks p ok clock k reports never_falls taken;
    in_time = λ clock never_falls. led_in_time p ok.right.in_range clock k reports never_falls taken;
    once = once p k reports taken;
    apart = subst (λ (x : Counts). (i j : ℕ) (q : Place) → i < length p → j < length p → i ≢ j → MayBeOnOrder p k x i q → MayBeOnOrder p k x j q → ⊥) all_now (apart p k reports taken passable tasks ok);
    on_ground = subst (λ (x : Counts). (i : ℕ) (q : Place) → i < length p → MayBeOnOrder p k x i q → IsTrue (passable q)) all_now (on_ground p k reports taken passable tasks ok);
    goes_on = subst (λ (x : Counts). 1 ≤ k → is_all_done p x ≡ false → (i : ℕ) × (i < length p) × (count_of x i < told_to p k x i)) all_now (goes_on p k reports taken passable tasks ok);
    few = few;
    short = λ as_many. subst (Arrive p) all_now (on_goals p k reports taken passable tasks ok (λ i a. ap (λ (x : Counts). count_of x i) all_now ∙ all_ended as_many i a));
    arrive = subst (λ (x : Counts). is_all_done p x ≡ true → Arrive p x) all_now (arrives p k reports taken passable tasks ok);
  }

-- ---- where other reports have led

counts_on : (counts : Counts) (log live : List Line) → counts_by counts (reports_in (log ++ live)) ≡ counts_by (counts_by counts (reports_in log)) (reports_in live)
counts_on counts [] live = refl
counts_on counts (q ∷ log) live = counts_on (counts_after counts (words_in q)) log live

taken_on : (counts : Counts) (log live : List Line) → taken_by counts (log ++ live) ≡ taken_by counts log + taken_by (counts_by counts (reports_in log)) live
taken_on counts [] live = omega arith
taken_on counts (q ∷ log) live = omega (arith, taken_on (counts_after counts (words_in q)) log live)

told_on : (p : Program) (k : ℕ) (told other counts : Counts) (log live : List Line) (r : Line)
    → told_by p k told counts (reports_in (log ++ r ∷ live)) ≡ told_by p k other (counts_by counts (reports_in log)) (reports_in (r ∷ live))
told_on p k told other counts [] live r = refl
told_on p k told other counts (q ∷ log) live r = told_on p k (told_at p k counts) other (counts_after counts (words_in q)) log live r

pub says_alike : (d : Course) (log live : List Line) (r : Line) → SaysAlike d (resumed d log) (log ++ r ∷ live) (r ∷ live)
says_alike d log live r =
    let counts : counts_now d (log ++ r ∷ live) ≡ counts_now (resumed d log) (r ∷ live) = counts_on d.start log (r ∷ live) in
    let told = told_on d.program d.ahead d.start (counts_now d log) d.start log live r in
    record {
      counts = counts;
      orders = ap (λ (t : Counts). new_orders d.program d.form t (told_at d.program d.ahead (counts_now d (log ++ r ∷ live)))) told
          ∙ ap (λ (x : Counts). new_orders d.program d.form (told_by d.program d.ahead (counts_now d log) (counts_now d log) (reports_in (r ∷ live))) (told_at d.program d.ahead x)) counts;
      taken = omega (arith, taken_on d.start log (r ∷ live));
    }

-- lines that could be heard, and others after them, could be heard one after the other
together : (p : Program) (k : ℕ) (counts : Counts) (log live : List Line) → AreTaken p k counts (reports_in log) → AreTaken p k (counts_by counts (reports_in log)) (reports_in live)
    → AreTaken p k counts (reports_in (log ++ live))
together p k counts [] live before after = after
together p k counts (q ∷ log) live before after = (before.0, together p k (counts_after counts (words_in q)) log live before.1 after)

pub heard_together : (d : Course) (log live : List Line) → AreHeard d log → AreHeard (resumed d log) live → AreHeard d (log ++ live)
heard_together d log live before after = together d.program d.ahead d.start log live before after
