-- The orders that are told are those of the dispatch that robots carry out.
use Rattle.fleet_dispatch.proofs.Cited.{◌≡◌, ℕ, zero, suc, ◌+◌, ◌-◌, ◌<◌, ◌≤◌, ◌++◌, ◌↔◌, ◌==◌, Bool, true, false, cond, List, [], length, get_or, take, Option, Some, refl, ap, sym, ◌∙◌, subst, arith, inl, inr, le-leb, leb-true, leb-false, eq-eqb, eqb-true, option_map, option_map_or, position, position-Some, cases_lt, length-take-le, length-map, take-take, take-map, flat_map, range_with_len, get_or-range_with_len, get_or-map-range_with_len, some_passes, ActionId, Program, moves, indices, IsAction, Dispatch, ReportForm, Pace, Words, Counts, count_of, Line, words_in, told_to, told_at, order_line, agent_orders, new_orders, counts_by, told_by, reports_in, AreTaken, AreHeard, first_course, none_done, counts_at, is_told_by, dispatch_of, Rises, is_ordered_at, agent_orders_at, orders_at, IsToldAt, TellsWhatIsOrdered}
use Rattle.fleet_dispatch.proofs.Leading.{first_in, passes, timed, none_first, may_told}
use Rattle.fleet_dispatch.proofs.Promises.{once}
use Rattle.fleet_dispatch.proofs.AsRun.{told_last}
use Rattle.fleet_dispatch.proofs.Texts.{flat_agree, flat_past}

-- ---- texts of which only those between two numbers are there

flat_front : (f : ℕ → List ℕ) (a d n : ℕ) → ((i : ℕ) → a ≤ i → i < a + d → f i ≡ []) → flat_map f (range_with_len a (d + n)) ≡ flat_map f (range_with_len (a + d) n)
flat_front f a zero n none =
    let more : zero + n ≡ n = omega arith in
    let at : a ≡ a + zero = omega arith in
    ap (λ l. flat_map f (range_with_len a l)) more ∙ ap (λ b. flat_map f (range_with_len b n)) at
flat_front f a (suc d) n none =
    let more : suc d + n ≡ suc (d + n) = omega arith in
    let at : a + 1 + d ≡ a + suc d = omega arith in
    ap (λ l. flat_map f (range_with_len a l)) more
    ∙ ap (λ (xs : List ℕ). xs ++ flat_map f (range_with_len (a + 1) (d + n))) (none a (omega arith) (omega arith))
    ∙ flat_front f (a + 1) d n (λ i low high. none i (omega arith) (omega arith))
    ∙ ap (λ b. flat_map f (range_with_len b n)) at

flat_between : (f g : ℕ → List ℕ) (b e m : ℕ) → b ≤ e → e ≤ m → ((n : ℕ) → n < b → g n ≡ []) → ((n : ℕ) → b ≤ n → n < e → g n ≡ f n) → ((n : ℕ) → e ≤ n → n < m → g n ≡ [])
    → flat_map g (range_with_len 0 m) ≡ flat_map f (range_with_len b (e - b))
flat_between f g b e m low high before within after =
    let all : m ≡ e + (m - e) = omega arith in
    let front : e ≡ b + (e - b) = omega arith in
    let at : 0 + b ≡ b = omega arith in
    ap (λ n. flat_map g (range_with_len 0 n)) all
    ∙ flat_past g e (m - e) (λ i l u. after i l (omega arith))
    ∙ ap (λ n. flat_map g (range_with_len 0 n)) front
    ∙ flat_front g 0 b (e - b) (λ i l u. before i (omega arith))
    ∙ ap (λ n. flat_map g (range_with_len n (e - b))) at
    ∙ flat_agree g f b (e - b) (λ i l u. within i l (omega arith))

module _ (p : Program) (k : ℕ) (reports : List Words) (taken : AreTaken p k (none_done p) reports) where
  abbrev m : ℕ
  m = length reports

  -- what an agent is told after the first t reports
  abbrev told : ℕ → ℕ → ℕ
  told t i = told_to p k (counts_at p reports t) i

  -- .. and before the last of them
  abbrev before : ℕ → ℕ → ℕ
  before t i = count_of (told_by p k (none_done p) (none_done p) (take t reports)) i

  told_in : (t i : ℕ) → i < length p → count_of (told_at p k (counts_at p reports t)) i ≡ told t i
  told_in t i a = get_or-map-range_with_len (told_to p k (counts_at p reports t)) 0 (length p) i i 0 a (omega arith)

  told_before : (t i : ℕ) → suc t ≤ m → i < length p → before (suc t) i ≡ told t i
  told_before t i le a =
      let shorter : take t (take (suc t) reports) ≡ take t reports = take-take t (suc t) reports (omega arith) in
      ap (λ (x : Counts). count_of x i) (told_last p k (none_done p) (none_done p) (take (suc t) reports) t (length-take-le (suc t) reports le))
      ∙ ap (λ (rs : List Words). count_of (told_at p k (counts_by (none_done p) rs)) i) shorter
      ∙ told_in t i a

  before_low : (t i : ℕ) → t ≤ m → i < length p → before t i ≤ told t i
  before_low zero i le a = omega (arith, none_first p k reports taken i)
  before_low (suc t) i le a = omega (arith, told_before t i le a, once p k reports taken t (suc t) i (omega arith) le a)

  -- ---- with which report an action is told

  is_first : (a : ActionId) → IsAction p a → (t : ℕ) → t ≤ m → IsToldAt p k reports t a → position (is_told_by p k reports a) (indices (m + 1)) ≡ Some t
  is_first a act t le h =
      let f = first_in (is_told_by p k reports a) (m + 1) t (omega arith) (le-leb _ _ h.1) in
      let at = passes (is_told_by p k reports a) (m + 1) f.0 f.1 in
      let low : a.number ≤ told f.0 a.agent = leb-true _ _ at.1 in
      let same : f.0 ≡ t = go t le h f.0 f.2 low in
      f.1 ∙ ap Some same
    where
      go : (t : ℕ) → t ≤ m → IsToldAt p k reports t a → (u : ℕ) → u ≤ t → a.number ≤ told u a.agent → u ≡ t
      go zero le h u l low = omega arith
      go (suc t) le h u l low = elim (cases_lt u (suc t)) [
        | inr ge ↦ omega arith
        | inl less ↦ absurd (
            let fewer : before (suc t) a.agent < a.number = h.0 in
            omega (arith, fewer, told_before t a.agent le act.agent, once p k reports taken u t a.agent (omega arith) (omega arith) act.agent, low))
      ]

  is_told : (a : ActionId) → IsAction p a → (t : ℕ) → position (is_told_by p k reports a) (indices (m + 1)) ≡ Some t → (t ≤ m) × IsToldAt p k reports t a
  is_told a act t e =
      let at = passes (is_told_by p k reports a) (m + 1) t e in
      let le : t ≤ m = omega (arith, at.0) in
      (le, (go t le (position-Some (is_told_by p k reports a) (indices (m + 1)) t 0 e).2, leb-true _ _ at.1))
    where
      go : (t : ℕ) → t ≤ m → ((j : ℕ) → j < t → is_told_by p k reports a (get_or (indices (m + 1)) j 0) ≡ false) → before t a.agent < a.number
      go zero le none = omega (arith, none_first p k reports taken a.agent, act.first)
      go (suc t) le none =
          let there : get_or (indices (m + 1)) t 0 ≡ t = get_or-range_with_len 0 (m + 1) t 0 (omega arith) ∙ omega arith in
          let no : is_told_by p k reports a t ≡ false = ap (is_told_by p k reports a) (sym there) ∙ none t (omega arith) in
          omega (arith, told_before t a.agent le act.agent, leb-false _ _ no)

  pub when : (clock : ℕ → ℕ) (a : ActionId) (x : ℕ) → IsAction p a
      → (((dispatch_of clock p k reports).orders a ≡ Some x) ↔ ((t : ℕ) × (t ≤ m) × (clock t ≡ x) × IsToldAt p k reports t a))
  unfolding dispatch_of
  when clock a x act = (
    λ e.
        let s = timed clock (position (is_told_by p k reports a) (indices (m + 1))) x e in
        let r = is_told a act s.0 s.1 in
        (s.0, r.0, s.2, r.1),
    λ h. ap (option_map clock) (is_first a act h.0 h.1 h.3) ∙ ap Some h.2,
  )

  -- ---- what is said with it

  module _ (clock : ℕ → ℕ) (rises : Rises clock) (t : ℕ) (le : t ≤ m) where
    abbrev d : Dispatch
    d = dispatch_of clock p k reports

    one_time : (u : ℕ) → clock u ≡ clock t → u ≡ t
    one_time u e = elim (cases_lt u t) [
      | inl less ↦ absurd (omega (arith, e, rises u t less))
      | inr ge ↦ elim (cases_lt t u) [ inl more ↦ absurd (omega (arith, e, rises t u more)) | inr same ↦ omega arith ]
    ]

    is_then : (a : ActionId) → IsAction p a → IsToldAt p k reports t a → is_ordered_at d (clock t) a ≡ true
    is_then a act h =
        ap (λ (o : Option ℕ). option_map_or (λ u. u == clock t) o false) ((when clock a (clock t) act).1 (t, le, refl, h)) ∙ eq-eqb (clock t) (clock t) refl

    not_then : (a : ActionId) → IsAction p a → (IsToldAt p k reports t a → ⊥) → is_ordered_at d (clock t) a ≡ false
    not_then a act other = go (is_ordered_at d (clock t) a) refl
      where
        go : (b : Bool) → is_ordered_at d (clock t) a ≡ b → is_ordered_at d (clock t) a ≡ false
        go false e = e
        go true e =
            let s = some_passes (λ u. u == clock t) (d.orders a) e in
            let h = (when clock a (clock t) act).0 (s.1 ∙ ap Some (eqb-true s.0 (clock t) s.2)) in
            absurd (other (subst (λ u. IsToldAt p k reports u a) (one_time h.0 h.2) h.3))

    of_agent : (form : ReportForm) (i : ℕ) → i < length p → agent_orders_at p form d (clock t) i ≡ agent_orders p form i (before t i) (told t i)
    of_agent form i a =
        let most : told t i ≤ moves p i = (may_told p k reports taken t i le a).within in
        flat_between (order_line p form i) (λ n. cond (is_ordered_at d (clock t) (record { agent = i; number = n + 1 })) (order_line p form i n) []) (before t i) (told t i) (moves p i) (before_low t i le a) most
        (λ n l. none n (omega (arith, most, before_low t i le a)) (λ h. let x : before t i < n + 1 = h.0 in omega (arith, x, l)))
        (λ n l u. ap (λ b. cond b (order_line p form i n) []) (is_then (record { agent = i; number = n + 1 }) (act n (omega (arith, most))) (omega (arith, l), omega (arith, u))))
        (λ n l u. none n u (λ h. let x : n + 1 ≤ told t i = h.1 in omega (arith, x, l)))
      where
        act : (n : ℕ) → n < moves p i → IsAction p (record { agent = i; number = n + 1 })
        act n l = record { agent = a; first = omega arith; last = omega (arith, l) }

        none : (n : ℕ) → n < moves p i → (IsToldAt p k reports t (record { agent = i; number = n + 1 }) → ⊥) → cond (is_ordered_at d (clock t) (record { agent = i; number = n + 1 })) (order_line p form i n) [] ≡ []
        none n l other = ap (λ b. cond b (order_line p form i n) []) (not_then (record { agent = i; number = n + 1 }) (act n l) other)

    pub said_then : (form : ReportForm) → new_orders p form (told_by p k (none_done p) (none_done p) (take t reports)) (told_at p k (counts_at p reports t)) ≡ orders_at p form d (clock t)
    unfolding new_orders orders_at
    said_then form = flat_agree (λ i. agent_orders p form i (before t i) (count_of (told_at p k (counts_at p reports t)) i)) (agent_orders_at p form d (clock t)) 0 (length p)
        (λ i low high. ap (agent_orders p form i (before t i)) (told_in t i (omega (arith, high))) ∙ sym (of_agent form i (omega (arith, high))))

pub tells_what_is_ordered : (p : Program) (pace : Pace) (lines : List Line) → AreHeard (first_course p pace) lines → TellsWhatIsOrdered p pace lines
tells_what_is_ordered p pace lines heard = record {
  said = λ clock t rises le.
      let first : reports_in (take t lines) ≡ take t (reports_in lines) = sym (take-map words_in t lines) in
      ap (λ (rs : List Words). new_orders p pace.form (told_by p pace.ahead (none_done p) (none_done p) rs) (told_at p pace.ahead (counts_by (none_done p) rs))) first
      ∙ said_then p pace.ahead (reports_in lines) heard clock rises t (omega (arith, le, length-map lines words_in)) pace.form;
  when = λ clock a x act.
      let w = when p pace.ahead (reports_in lines) heard clock a x act in
      let long : length (reports_in lines) ≡ length lines = length-map lines words_in in (
        λ e. (let h = w.0 e in (h.0, omega (arith, h.1, long), h.2, h.3)),
        λ h. w.1 (h.0, omega (arith, h.1, long), h.2, h.3),
      );
}
