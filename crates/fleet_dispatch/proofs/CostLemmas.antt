-- What the lines of a text say that actions cost.
use Rattle.fleet_dispatch.proofs.Cited.{◌≡◌, ℕ, ◌+◌, ◌<◌, ◌≤◌, Bool, true, false, ◌&&◌, ◌==◌, nat_le, unwrap_or, option_and_then, option_map, position, take, drop, cond, List, [], ◌∷◌, ◌++◌, length, map, set, get_or, replicate, Option, None, Some, Result, Ok, Err, refl, sym, ap, subst, ◌∙◌, arith, inl, inr, nat_lt, max, option_map_or, cases_lt, cases_eq, eq-eqb, false_from_ne_true, eqb-true, and_parts, leb-true, ltb-true, same_Some, is_space, long_number, nat_tests, get_or-map-range_with_len, map-range_with_len_more, length-range_with_len, length-replicate, get_or-set_same, get_or-set_other, length-set, get_or_past, get_or-replicate, length-map, ActionId, Program, moves, MAX_COST, indices, Bytes, lines, CostLine, TimesFault, Cost, named_action, whose_of, cost_of, cost_line_of, is_of, AreCostsOf, IsCostsFault, no_rows, cost_line_in, IsCostOf, AreRowsOf, AreLow, entry, noted_by, is_named, last_cost, cost_by, cost_in, IsFirstNoCost}
use Rattle.fleet_dispatch.specs.Costs.{noted}

-- ---- one line more

-- rows with what a line says have as many entries
pub rows_noted : (p : Program) (rows : List (List ℕ)) (l : CostLine) → AreRowsOf p rows → IsCostOf p l → AreRowsOf p (noted rows l)
rows_noted p rows l shape is =
    let i = l.whose.agent in
    let row = set (get_or rows i []) (named_action l.whose).number l.cost in
    record {
      all = length-set rows i row ∙ shape.all;
      each = λ j below. elim (cases_eq j i) [
        | inl e ↦
            ap (λ k. length (get_or (set rows i row) k [])) e
            ∙ (ap length (get_or-set_same rows i row [] (omega (arith, is.agent, shape.all)))
            ∙ (length-set (get_or rows i []) (named_action l.whose).number l.cost
            ∙ (shape.each i is.agent ∙ ap (λ k. moves p k + 1) (sym e))))
        | inr ne ↦ ap length (get_or-set_other rows i j row [] ne) ∙ shape.each j below
      ];
    }

-- .. and this one is the line's cost, the others are as before
pub entry_noted : (p : Program) (rows : List (List ℕ)) (l : CostLine) → AreRowsOf p rows → IsCostOf p l → (i n : ℕ)
    → entry (noted rows l) i n ≡ cond (is_named i n l) l.cost (entry rows i n)
entry_noted p rows l shape is i n =
    let a = l.whose.agent in
    let m = (named_action l.whose).number in
    let row = set (get_or rows a []) m l.cost in
    let long : m < length (get_or rows a []) = omega (arith, is.number, shape.each a is.agent) in
    elim (cases_eq i a) [
      | inl e ↦
          let here : get_or (set rows a row) i [] ≡ row = ap (λ k. get_or (set rows a row) k []) e ∙ get_or-set_same rows a row [] (omega (arith, is.agent, shape.all)) in
          elim (cases_eq n m) [
            | inl f ↦
                let named : is_named i n l ≡ true = ap (λ k. (k == i) && (m == n)) (sym e) ∙ rw (eq-eqb i i refl, eq-eqb m n (sym f)) refl in
                ap (λ r. get_or r n 0) here ∙ (ap (λ k. get_or row k 0) f ∙ get_or-set_same (get_or rows a []) m l.cost 0 long) ∙ sym (ap (λ b. cond b l.cost (entry rows i n)) named)
            | inr ne ↦
                let other : (m == n) ≡ false = false_from_ne_true (m == n) (λ t. ne (sym (eqb-true m n t))) in
                let named : is_named i n l ≡ false = ap (λ k. (k == i) && (m == n)) (sym e) ∙ rw (eq-eqb i i refl, other) refl in
                ap (λ r. get_or r n 0) here ∙ (get_or-set_other (get_or rows a []) m n l.cost 0 ne ∙ ap (λ k. entry rows k n) (sym e)) ∙ sym (ap (λ b. cond b l.cost (entry rows i n)) named)
          ]
      | inr ne ↦
          let other : (a == i) ≡ false = false_from_ne_true (a == i) (λ t. ne (sym (eqb-true a i t))) in
          let named : is_named i n l ≡ false = ap (λ b. b && (m == n)) other in
          ap (λ r. get_or r n 0) (get_or-set_other rows a i row [] ne) ∙ sym (ap (λ b. cond b l.cost (entry rows i n)) named)
    ]

-- ---- all lines

-- each of these is a cost of the program
abbrev pub AreCosts : Program → List CostLine → Type 0
AreCosts p [] = Unit {0}
AreCosts p (l ∷ said) = IsCostOf p l × AreCosts p said

-- the lines say costs of the program, and the rows are those with them
pub record AreNoted (p : Program) (lines : List Bytes) (rows rows' : List (List ℕ)) : Type 0 where
  pub said : List CostLine
  pub read : map (cost_line_in p) lines ≡ map Some said
  pub are : AreCosts p said
  pub entries : (i n : ℕ) → entry rows' i n ≡ last_cost i n (entry rows i n) said

-- line n of these says nothing, and is the first
pub record FailsAt (p : Program) (before : ℕ) (lines : List Bytes) (e : TimesFault) : Type 0 where
  pub n : ℕ
  pub first : IsFirstNoCost p lines n
  pub fault : e ≡ Cost (before + n)

-- what comes of the lines
abbrev pub Comes : Program → ℕ → List Bytes → List (List ℕ) → Result (List (List ℕ)) TimesFault → Type 0
Comes p before lines rows (Ok rows') = AreNoted p lines rows rows'
Comes p before lines rows (Err fault) = FailsAt p before lines fault

-- a value that passed a test
of_test : {A : Type 0} (t : A → Bool) (y x : A) (b : Bool) → t y ≡ b → cond b (Some y) None ≡ Some x → (y ≡ x) × (t x ≡ true)
of_test t y x true e h = let s = same_Some y x h in (s, subst (λ z. t z ≡ true) s e)
of_test t y x false e h = absurd cc

tested : {A : Type 0} (t : A → Bool) (o : Option A) (x : A) → option_and_then (λ y. cond (t y) (Some y) None) o ≡ Some x → (o ≡ Some x) × (t x ≡ true)
tested t None x h = absurd cc
tested t (Some y) x h = let s = of_test t y x (t y) refl h in (ap Some s.0, s.1)

of_then : {A B : Type 0} (f : A → Option B) (o : Option A) (y : B) → option_and_then f o ≡ Some y → (x : A) × (f x ≡ Some y)
of_then f None y h = absurd cc
of_then f (Some x) y h = (x, h)

of_map : {A B : Type 0} (f : A → B) (o : Option A) (y : B) → option_map f o ≡ Some y → (x : A) × (o ≡ Some x) × (f x ≡ y)
of_map f None y h = absurd cc
of_map f (Some x) y h = (x, refl, same_Some (f x) y h)

-- the cost that a word spells is one
spelled_is : (word : Bytes) (n : ℕ) → cost_of word ≡ Some n → (1 ≤ n) × (n ≤ MAX_COST)
spelled_is word n h =
    let t = and_parts (nat_le 1 n) (nat_le n MAX_COST) (tested (λ k. nat_le 1 k && nat_le k MAX_COST) (long_number word) n h).1 in
    (leb-true 1 n t.0, leb-true n MAX_COST t.1)

line_is : (line : Bytes) (l : CostLine) → cost_line_of line ≡ Some l → (1 ≤ l.cost) × (l.cost ≤ MAX_COST)
line_is line l h =
    let one = of_then _ (position is_space line) l h in
    let two = of_then _ (whose_of (take one.0 line)) l one.1 in
    let three = of_map (λ (n : ℕ). record { whose = two.0; cost = n }) (cost_of (drop (one.0 + 1) line)) l two.1 in
    let c : three.0 ≡ l.cost = ap (λ (k : CostLine). k.cost) three.2 in
    subst (λ n. (1 ≤ n) × (n ≤ MAX_COST)) c (spelled_is (drop (one.0 + 1) line) three.0 three.1)

number_in : (m : ℕ) (o : Option ℕ) → option_map_or (λ n. nat_le 1 n && nat_le n m) o true ≡ true → unwrap_or o 0 ≤ m
number_in m None h = omega arith
number_in m (Some n) h = leb-true n m (and_parts (nat_le 1 n) (nat_le n m) h).1

-- a line that says a cost is one of the program's
pub said_is : (p : Program) (line : Bytes) (l : CostLine) → cost_line_in p line ≡ Some l → IsCostOf p l
unfolding cost_line_in
said_is p line l h =
    let said = tested (λ (k : CostLine). is_of p k.whose) (cost_line_of line) l h in
    let of = and_parts (nat_lt l.whose.agent (length p)) _ said.1 in
    let cost = line_is line l said.0 in
    record { agent = ltb-true l.whose.agent (length p) of.0; number = number_in (moves p l.whose.agent) l.whose.number of.1; least = cost.0; most = cost.1 }

module _ (p : Program) (before : ℕ) (line : Bytes) (others : List Bytes) (rows : List (List ℕ)) (shape : AreRowsOf p rows) where
  -- a line that says a cost, and what comes of those after it
  one_more : (l : CostLine) → cost_line_in p line ≡ Some l → (r : Result (List (List ℕ)) TimesFault) → Comes p (before + 1) others (noted rows l) r → Comes p before (line ∷ others) rows r
  one_more l is (Ok rows') h = record {
    said = l ∷ h.said;
    read = ap (λ x. x ∷ map (cost_line_in p) others) is ∙ ap (λ xs. Some l ∷ xs) h.read;
    are = (said_is p line l is, h.are);
    entries = λ i n. h.entries i n ∙ ap (λ k. last_cost i n k h.said) (entry_noted p rows l shape (said_is p line l is) i n);
  }
  one_more l is (Err fault) h = record {
    n = h.n + 1;
    first = record {
      before = line ∷ h.first.before;
      line = h.first.line;
      after = h.first.after;
      said = l ∷ h.first.said;
      are = ap (λ xs. line ∷ xs) h.first.are;
      read = ap (λ x. x ∷ map (cost_line_in p) h.first.before) is ∙ ap (λ xs. Some l ∷ xs) h.first.read;
      none = h.first.none;
      number = omega (arith, h.first.number);
    };
    fault = h.fault ∙ ap Cost (omega arith);
  }

  -- one that says none
  no_more : cost_line_in p line ≡ None → Comes p before (line ∷ others) rows (Err (Cost (before + 1)))
  no_more none = record {
    n = 1;
    first = record { before = []; line = line; after = others; said = []; are = refl; read = refl; none = none; number = refl };
    fault = refl;
  }

  by_line : (o : Option CostLine) → cost_line_in p line ≡ o → ((l : CostLine) → AreRowsOf p (noted rows l) → Comes p (before + 1) others (noted rows l) (noted_by p (before + 1) (noted rows l) others))
      → Comes p before (line ∷ others) rows (option_map_or (λ l. noted_by p (before + 1) (noted rows l) others) o (Err (Cost (before + 1))))
  by_line None is then = no_more is
  by_line (Some l) is then = one_more l is _ (then l (rows_noted p rows l shape (said_is p line l is)))

pub comes : (p : Program) (before : ℕ) (rows : List (List ℕ)) → AreRowsOf p rows → (lines : List Bytes) → Comes p before lines rows (noted_by p before rows lines)
comes p before rows shape [] = record { said = []; read = refl; are = tt; entries = λ i n. refl }
comes p before rows shape (line ∷ others) = by_line p before line others rows shape (cost_line_in p line) refl (λ l s. comes p (before + 1) (noted rows l) s others)

-- ---- what an action costs

-- the last cost of costs is one, if what else there is is one
pub last_is : (p : Program) (i n d : ℕ) (said : List CostLine) → AreCosts p said → d ≤ MAX_COST → last_cost i n d said ≤ MAX_COST
last_is p i n d [] are low = low
last_is p i n d (l ∷ said) are low = elim (is_named i n l) as (λ (b : Bool). last_cost i n (cond b l.cost d) said ≤ MAX_COST) [
  | true ↦ last_is p i n l.cost said are.1 are.0.most
  | false ↦ last_is p i n d said are.1 low
]

last_least : (p : Program) (i n d : ℕ) (said : List CostLine) → AreCosts p said → 1 ≤ d → 1 ≤ last_cost i n d said
last_least p i n d [] are least = least
last_least p i n d (l ∷ said) are least = elim (is_named i n l) as (λ (b : Bool). 1 ≤ last_cost i n (cond b l.cost d) said) [
  | true ↦ last_least p i n l.cost said are.1 are.0.least
  | false ↦ last_least p i n d said are.1 least
]

here : (m d : ℕ) → 1 ≤ m → m ≡ cond (nat_lt 0 m) m d
here m d least = grind (arith, nat_tests)

-- if no line names it, the last cost is what else there is; if one does, it does not matter what else there is
last_or : (p : Program) (i n d : ℕ) (said : List CostLine) → AreCosts p said → last_cost i n d said ≡ cond (nat_lt 0 (last_cost i n 0 said)) (last_cost i n 0 said) d
last_or p i n d [] are = refl
last_or p i n d (l ∷ said) are = elim (is_named i n l) as (λ (b : Bool). last_cost i n (cond b l.cost d) said ≡ cond (nat_lt 0 (last_cost i n (cond b l.cost 0) said)) (last_cost i n (cond b l.cost 0) said) d) [
  | true ↦ here (last_cost i n l.cost said) d (last_least p i n l.cost said are.1 are.0.least)
  | false ↦ last_or p i n d said are.1
]

joined : (own all of_all cost : ℕ) → of_all ≡ cond (nat_lt 0 all) all 1 → cost ≡ cond (nat_lt 0 own) own of_all → cond (nat_lt 0 own) own (max all 1) ≡ cost
joined own all of_all cost e f = grind (arith, nat_tests)

module _ (p : Program) (rows : List (List ℕ)) (said : List CostLine) (are : AreCosts p said) (entries : (i n : ℕ) → entry rows i n ≡ last_cost i n 0 said) where
  pub low : AreLow rows
  low i n = subst (λ k. k ≤ MAX_COST) (sym (entries i n)) (last_is p i n 0 said are (omega arith))

  pub costs_are : (a : ActionId) → cost_in rows a ≡ cost_by said a
  costs_are a =
      rw (entries a.agent a.number, entries a.agent 0)
      (joined (last_cost a.agent a.number 0 said) (last_cost a.agent 0 0 said) (last_cost a.agent 0 1 said) (cost_by said a)
      (last_or p a.agent 0 1 said are) (last_or p a.agent a.number (last_cost a.agent 0 1 said) said are))

-- ---- from nothing

pub row_more : (f : ℕ → List ℕ) (i : ℕ) (rows new : List (List ℕ)) (row : List ℕ) → rows ≡ map f (indices i) → new ≡ rows ++ row ∷ [] → row ≡ f i → new ≡ map f (indices (i + 1))
row_more f i rows new row is made here = cc (is, made, here, map-range_with_len_more f 0 i i (omega arith))

no_entry : (k n : ℕ) → ◌≡◌ {A = ℕ} (get_or (replicate k 0) n 0) 0
no_entry k n = elim (cases_lt n k) [
  | inl l ↦ get_or-replicate k n 0 0 l
  | inr l ↦ get_or_past (replicate k 0) n 0 (omega (arith, length-replicate {A = ℕ}))
]

module _ (p : Program) where
  row_at : (i : ℕ) → i < length p → get_or (no_rows p) i [] ≡ replicate (moves p i + 1) 0
  row_at i below = get_or-map-range_with_len (λ i. replicate (moves p i + 1) 0) 0 (length p) i i [] below (omega arith)

  many : length (no_rows p) ≡ length p
  many = length-map (indices (length p)) (λ i. replicate (moves p i + 1) 0) ∙ length-range_with_len 0 (length p)

  -- rows in which nothing is said yet have an entry for each action
  pub none_are_rows : AreRowsOf p (no_rows p)
  none_are_rows = record { all = many; each = λ i below. ap length (row_at i below) ∙ length-replicate (moves p i + 1) 0 }

  none_said : (i n : ℕ) → entry (no_rows p) i n ≡ 0
  none_said i n = elim (cases_lt i (length p)) [
    | inl l ↦ ap (λ r. get_or r n 0) (row_at i l) ∙ no_entry (moves p i + 1) n
    | inr l ↦ ap (λ r. get_or r n 0) (get_or_past (no_rows p) i [] (omega (arith, many))) ∙ get_or_past [] n 0 (omega arith)
  ]

  -- what comes of all lines
  module _ (text : Bytes) where
    said_all : (rows : List (List ℕ)) → Comes p 0 (lines text) (no_rows p) (Ok rows) → (AreLow rows) × AreCostsOf p text (cost_in rows)
    said_all rows h =
        let entries : (i n : ℕ) → entry rows i n ≡ last_cost i n 0 h.said = λ i n. h.entries i n ∙ ap (λ k. last_cost i n k h.said) (none_said i n) in
        (low p rows h.said h.are entries, record { said = h.said; read = h.read; costs = λ a _. costs_are p rows h.said h.are entries a })

    pub all_said : (rows : List (List ℕ)) → noted_by p 0 (no_rows p) (lines text) ≡ Ok rows → (AreLow rows) × AreCostsOf p text (cost_in rows)
    all_said rows h = said_all rows (subst (Comes p 0 (lines text) (no_rows p)) h (comes p 0 (no_rows p) none_are_rows (lines text)))

    pub not_said : (fault : TimesFault) → noted_by p 0 (no_rows p) (lines text) ≡ Err fault → IsCostsFault p text fault
    not_said fault h =
        let fails : FailsAt p 0 (lines text) fault = subst (Comes p 0 (lines text) (no_rows p)) h (comes p 0 (no_rows p) none_are_rows (lines text)) in
        subst (IsCostsFault p text) (sym (fails.fault ∙ ap Cost (omega arith))) fails.first
