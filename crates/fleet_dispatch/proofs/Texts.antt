-- Orders that are written one after another.
use Rattle.fleet_dispatch.proofs.Cited.{◌≡◌, ◌≢◌, ℕ, zero, suc, ◌+◌, ◌-◌, ◌<◌, ◌≤◌, ◌++◌, List, [], length, refl, ap, sym, ◌∙◌, arith, append_assoc, append-nil, flat_map, range_with_len, Program, ReportForm, Counts, count_of, order_line, agent_orders, new_orders}

-- one text more
pub flat_more : (f : ℕ → List ℕ) (a n : ℕ) → flat_map f (range_with_len a (n + 1)) ≡ flat_map f (range_with_len a n) ++ f (a + n)
flat_more f a zero = let e : a ≡ a + 0 = omega arith in append-nil (f a) ∙ ap f e
flat_more f a (suc n) =
    let more : suc n + 1 ≡ suc (n + 1) = omega arith in
    let at : a + 1 + n ≡ a + suc n = omega arith in
    ap (λ m. flat_map f (range_with_len a m)) more
    ∙ ap (λ (xs : List ℕ). f a ++ xs) (flat_more f (a + 1) n)
    ∙ sym (append_assoc (f a) (flat_map f (range_with_len (a + 1) n)) (f (a + 1 + n)))
    ∙ ap (λ i. (f a ++ flat_map f (range_with_len (a + 1) n)) ++ f i) at

pub flat_agree : (f g : ℕ → List ℕ) (a n : ℕ) → ((i : ℕ) → a ≤ i → i < a + n → f i ≡ g i) → flat_map f (range_with_len a n) ≡ flat_map g (range_with_len a n)
flat_agree f g a zero h = refl
flat_agree f g a (suc n) h = cc (h a (omega arith) (omega arith), flat_agree f g (a + 1) n (λ i l u. h i (omega arith) (omega arith)))

-- texts that are empty add nothing
pub flat_past : (f : ℕ → List ℕ) (from d : ℕ) → ((i : ℕ) → from ≤ i → i < from + d → f i ≡ []) → flat_map f (range_with_len 0 (from + d)) ≡ flat_map f (range_with_len 0 from)
flat_past f from zero none = let e : from + zero ≡ from = omega arith in ap (λ n. flat_map f (range_with_len 0 n)) e
flat_past f from (suc d) none =
    let more : from + suc d ≡ (from + d) + 1 = omega arith in
    let at : 0 + (from + d) ≡ from + d = omega arith in
    ap (λ n. flat_map f (range_with_len 0 n)) more ∙ flat_more f 0 (from + d)
    ∙ ap (λ (xs : List ℕ). flat_map f (range_with_len 0 (from + d)) ++ xs) (ap f at ∙ none (from + d) (omega arith) (omega arith))
    ∙ append-nil (flat_map f (range_with_len 0 (from + d)))
    ∙ flat_past f from d (λ i low high. none i low (omega arith))

-- an agent's orders, and one more
pub orders_more : (p : Program) (form : ReportForm) (i from to : ℕ) → from ≤ to → agent_orders p form i from (to + 1) ≡ agent_orders p form i from to ++ order_line p form i to
orders_more p form i from to le =
    let more : to + 1 - from ≡ (to - from) + 1 = omega arith in
    let at : from + (to - from) ≡ to = omega arith in
    ap (λ n. flat_map (order_line p form i) (range_with_len from n)) more ∙ flat_more (order_line p form i) from (to - from)
    ∙ ap (λ n. agent_orders p form i from to ++ order_line p form i n) at

pub orders_none : (p : Program) (form : ReportForm) (i from to : ℕ) → to ≤ from → agent_orders p form i from to ≡ []
orders_none p form i from to le = let e : to - from ≡ 0 = omega arith in ap (λ n. flat_map (order_line p form i) (range_with_len from n)) e

-- ---- of all agents up to one

module _ (p : Program) (form : ReportForm) (old : Counts) where
  abbrev texts : Counts → ℕ → List ℕ
  texts now i = agent_orders p form i (count_of old i) (count_of now i)

  -- the orders up to agent i are written, those before `from` were; then those of agent i are, and what it is told
  -- changes no other
  pub one_agent_more : (now then : Counts) (from i : ℕ) (row row' : List ℕ) → from ≤ i
      → row ≡ flat_map (texts now) (range_with_len 0 from)
      → ((j : ℕ) → from ≤ j → count_of now j ≡ count_of old j)
      → ((j : ℕ) → j ≢ i → count_of then j ≡ count_of now j)
      → row' ≡ row ++ agent_orders p form i (count_of now i) (count_of then i)
      → row' ≡ flat_map (texts then) (range_with_len 0 (i + 1))
  one_agent_more now then from i row row' le written later others wrote =
      let same : from + (i - from) ≡ i = omega arith in
      let here : 0 + i ≡ i = omega arith in
      let up : flat_map (texts now) (range_with_len 0 i) ≡ flat_map (texts now) (range_with_len 0 from) =
      ap (λ n. flat_map (texts now) (range_with_len 0 n)) (sym same)
      ∙ flat_past (texts now) from (i - from) (λ j low high. orders_none p form j (count_of old j) (count_of now j) (omega (arith, later j low))) in
      let before : flat_map (texts then) (range_with_len 0 i) ≡ flat_map (texts now) (range_with_len 0 i) =
      flat_agree (texts then) (texts now) 0 i (λ j low high. let ne : j ≢ i = omega arith in ap (agent_orders p form j (count_of old j)) (others j ne)) in
      wrote ∙ ap (λ (xs : List ℕ). xs ++ agent_orders p form i (count_of now i) (count_of then i)) (written ∙ sym up ∙ sym before)
      ∙ ap (λ n. flat_map (texts then) (range_with_len 0 i) ++ agent_orders p form i n (count_of then i)) (later i le)
      ∙ sym (flat_more (texts then) 0 i ∙ ap (λ n. flat_map (texts then) (range_with_len 0 i) ++ texts then n) here)

  -- and no more are told
  pub all_written : (now : Counts) (from : ℕ) (row : List ℕ) → from ≤ length p → row ≡ flat_map (texts now) (range_with_len 0 from)
      → ((j : ℕ) → from ≤ j → count_of now j ≡ count_of old j) → row ≡ new_orders p form old now
  unfolding new_orders
  all_written now from row le written later =
      let same : from + (length p - from) ≡ length p = omega arith in
      written ∙ sym (ap (λ n. flat_map (texts now) (range_with_len 0 n)) (sym same)
      ∙ flat_past (texts now) from (length p - from) (λ j low high. orders_none p form j (count_of old j) (count_of now j) (omega (arith, later j low))))
