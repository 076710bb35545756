-- Rows: their places, which of them stand for actions, and what they are joined of, one row after another.
use Rattle.fleet_needs.proofs.Words.{◌≡◌, ℕ, ◌+◌, ◌-◌, ◌<◌, ◌≤◌, length, take, subst, arith, inl, inr, sum_by, cases_order, sum_by-take-le, Action, ActionId, AgentProgram, Program, actions_of, agent_awaits, awaits_before, awaits_of, total_awaits, actions_more, awaits_more, IsUpToLast, IsAction, row_first, row_place, ◌≢◌, All, Vec, Global, List, set, length-set, slice_index, sym, ap, ◌∙◌, ◌⊎◌, cases_lt, cases_eq, get_or-set_same, get_or-set_other, IsAwaiting, AreAllNoted, HasAllRows, IsRow, IsRowOrNone, StandsFor, IsFilled, no_action, [], ◌++◌, map, take_more, get_or-map, length-map, AreListedTo, action_at, action_before, action_of_key, need_for, need_of_key, needs_in, needs_of, row_of, rows_of, value_of_key, Joins, Need, RowTable}
use Rattle.fleet_needs.proofs.Counting.{sums_rise}
use Rattle.std.proofs.{lemmas.List.flat_map_more, lemmas.List.length-append, Math.Seq.map-set_same}
use Rattle.std.specs.List.{flat_map}

module _ (p : Program) where
  pub before_rises : (i m n : ℕ) → m ≤ n → awaits_before p i m ≤ awaits_before p i n
  before_rises i m n = sums_rise (λ (s : Action). length s.awaits) (actions_of p i) m n

  -- one action more
  pub before_with : (i n : ℕ) → 1 ≤ n → awaits_before p i n ≡ awaits_before p i (n - 1) + length (awaits_of p i n)
  before_with i n some = (let e : n - 1 + 1 ≡ n = omega arith in subst (λ (k : ℕ). awaits_before p i k ≡ awaits_before p i (n - 1) + length (awaits_of p i k)) e (actions_more p i (n - 1)))

  -- the places of an agent's rows stand before those of the next
  pub row_end : (a : ActionId) → row_place p a < total_awaits (take (a.agent + 1) p) + (a.agent + 1)
  row_end a =
      let all : awaits_before p a.agent a.number ≤ agent_awaits p a.agent = sum_by-take-le (λ (s : Action). length s.awaits) (actions_of p a.agent) a.number in
      omega (arith, all, awaits_more p a.agent)

  pub totals_rise : (i j : ℕ) → i ≤ j → total_awaits (take i p) ≤ total_awaits (take j p)
  totals_rise = sums_rise (λ (a : AgentProgram). sum_by (λ (s : Action). length s.awaits) a.actions) p

  pub row_within : (a : ActionId) → IsUpToLast p a → row_place p a < total_awaits p + length p
  row_within a up =
      let most : total_awaits (take (a.agent + 1) p) ≤ total_awaits p = sum_by-take-le (λ (x : AgentProgram). sum_by (λ (s : Action). length s.awaits) x.actions) p (a.agent + 1) in
      omega (arith, row_end a, most, up.agent)

  pub row_before : (a : ActionId) (j : ℕ) → a.agent < j → row_place p a < row_first p j
  row_before a j less = (let up = totals_rise (a.agent + 1) j (omega (arith, less)) in omega (arith, row_end a, up, less))

  -- they rise with the actions of the agent
  pub row_rises : (i m n : ℕ) → m ≤ n → row_place p (record { agent = i; number = m }) ≤ row_place p (record { agent = i; number = n })
  row_rises i m n le = omega (arith, before_rises i m n le)

  -- an action that awaits something has a greater one than those before
  pub row_less : (i m n : ℕ) → m < n → 1 ≤ length (awaits_of p i n) → row_place p (record { agent = i; number = m }) < row_place p (record { agent = i; number = n })
  row_less i m n less some = omega (arith, before_with i n (omega (arith, less)), some, before_rises i m (n - 1) (omega (arith, less)))

  -- what stands between those of an agent is of the agent
  pub row_own : (b a : ActionId) → row_first p a.agent ≤ row_place p b → row_place p b ≤ row_place p a → b.agent ≡ a.agent
  row_own b a from upto = elim (cases_order b.agent a.agent) [
    | inl e ↦ e
    | inr (inl less) ↦ absurd (omega (arith, row_before b a.agent less, from))
    | inr (inr more) ↦ absurd (omega (arith, row_before a b.agent more, upto, row_rises b.agent 0 b.number (omega arith)))
  ]

-- an action of the program is up to the last one of its agent
pub upto : (p : Program) (a : ActionId) → IsAction p a → IsUpToLast p a
upto p a is = record { agent = is.agent; last = is.last }

-- what stands for an action is one of the rows, or none
pub stands_within : (p : Program) (rows : List ActionId) (r i n : ℕ) → StandsFor p rows r i n → r ≤ length rows
stands_within p rows r i n s = elim s.row [ inl none ↦ omega (arith, none.0) | inr k ↦ k.upto ]

-- ---- places that are filled

-- the first n are, and the others are as they were
pub record AreFilledTo (n : ℕ) (old new : Vec ℕ Global) : Type 0 where
  pub all : length new.items ≡ length old.items
  pub inside : (x : ℕ) → x < n → IsFilled old new x
  pub after : (x : ℕ) → n ≤ x → slice_index new.items x ≡ slice_index old.items x

-- one place more: it has what it had, or else what the one before has
pub filled_more : (old mid new : Vec ℕ Global) (x : ℕ) → 1 ≤ x → length new.items ≡ length mid.items → ((y : ℕ) → y ≢ x → slice_index new.items y ≡ slice_index mid.items y) → ((slice_index new.items x ≡ slice_index mid.items x) × (1 ≤ slice_index mid.items x)) ⊎ ((slice_index new.items x ≡ slice_index mid.items (x - 1)) × (slice_index mid.items x ≡ 0))
    → AreFilledTo x old mid → AreFilledTo (x + 1) old new
filled_more old mid new x some all other is h = record {
  all = all ∙ h.all;
  inside = λ y less. elim (cases_eq y x) [
    | inr ne ↦ (let was = h.inside y (omega (arith, less, ne)) in record { from = was.from; upto = was.upto; same = other y ne ∙ was.same; some = was.some; none = was.none })
    | inl e ↦ subst (IsFilled old new) (sym e) (elim is [
      | inl own ↦ record { from = x; upto = omega arith; same = own.0 ∙ h.after x (omega arith); some = λ _. omega (arith, own.1, h.after x (omega arith)); none = λ z more le. absurd (omega (arith, more, le)) }
      | inr low ↦
          let was = h.inside (x - 1) (omega (arith, some)) in
          record {
            from = was.from;
            upto = omega (arith, was.upto);
            same = low.0 ∙ was.same;
            some = was.some;
            none = λ z more le. elim (cases_eq z x) [ inl same ↦ omega (arith, ap (slice_index old.items) same, h.after x (omega arith), low.1) | inr ne ↦ was.none z more (omega (arith, le, ne)) ];
          }
    ])
  ];
  after = λ y from. other y (λ e. omega (arith, e, from)) ∙ h.after y (omega (arith, from));
}

-- ---- rows that are noted

-- that of one action more, or of none
module _ (p : Program) (rows : List ActionId) (old new : Vec ℕ Global) (a : ActionId) (r : ℕ) (is : IsRowOrNone rows r a) (within : row_place p a < length old.items) (put : new.items ≡ set old.items (row_place p a) (r + 1)) where
  here : slice_index new.items (row_place p a) ≡ r + 1
  here = ap (λ (xs : List ℕ). slice_index xs (row_place p a)) put ∙ get_or-set_same old.items (row_place p a) (r + 1) 0 within

  other : (x : ℕ) → x ≢ row_place p a → slice_index new.items x ≡ slice_index old.items x
  other x ne = ap (λ (xs : List ℕ). slice_index xs x) put ∙ get_or-set_other old.items (row_place p a) x (r + 1) 0 ne

  -- what was noted still is
  pub still : (x : ℕ) → (x ≡ row_place p a) ⊎ (1 ≤ slice_index old.items x) → 1 ≤ slice_index new.items x
  still x was = elim (cases_eq x (row_place p a)) [
    | inl e ↦ omega (arith, ap (slice_index new.items) e, here)
    | inr ne ↦ elim was [ inl e ↦ absurd (ne e) | inr some ↦ omega (arith, other x ne, some) ]
  ]

  pub noted_as : ((x : ℕ) → 1 ≤ slice_index old.items x → (b : ActionId) × (row_place p b ≡ x) × IsRowOrNone rows (slice_index old.items x - 1) b) → (x : ℕ) → 1 ≤ slice_index new.items x → (b : ActionId) × (row_place p b ≡ x) × IsRowOrNone rows (slice_index new.items x - 1) b
  noted_as each x some = elim (cases_eq x (row_place p a)) [
    | inl e ↦ (a, sym e, subst (λ (n : ℕ). IsRowOrNone rows n a) (omega (arith, ap (slice_index new.items) e, here)) is)
    | inr ne ↦ (let was = each x (omega (arith, other x ne, some)) in (was.0, was.1, subst (λ (n : ℕ). IsRowOrNone rows n was.0) (ap (λ (n : ℕ). n - 1) (sym (other x ne))) was.2))
  ]

-- ---- each action has a row that stands for it

module _ (p : Program) (rows : List ActionId) (awaiting : All (IsAwaiting p) rows) (has : HasAllRows p rows) (old new : Vec ℕ Global) (noted : AreAllNoted p rows old) (filled : (x : ℕ) → x < length old.items → IsFilled old new x) (a : ActionId) (up : IsUpToLast p a) where
  abbrev x : ℕ
  x = row_place p a

  is : IsFilled old new x
  is = filled x (omega (arith, row_within p a up, noted.room))

  -- it is found among the places of its agent
  low : row_first p a.agent ≤ is.from
  low = elim (cases_lt is.from (row_first p a.agent)) [
    | inl less ↦ absurd (omega (arith, noted.none a.agent up.agent (omega (arith, up.agent)), is.none (row_first p a.agent) less (row_rises p a.agent 0 a.number (omega arith))))
    | inr le ↦ le
  ]

  some : 1 ≤ slice_index old.items is.from
  some = elim (cases_lt 0 is.from) [
    | inl more ↦ is.some more
    | inr none ↦ (let e : row_first p a.agent ≡ is.from = omega (arith, low, none) in omega (arith, noted.none a.agent up.agent (omega (arith, up.agent)), ap (slice_index old.items) e))
  ]

  awaits : (m r : ℕ) → IsRow rows r (record { agent = a.agent; number = m }) → 1 ≤ length (awaits_of p a.agent m)
  awaits m r row = subst (λ (b : ActionId). 1 ≤ length (awaits_of p b.agent b.number)) row.of (awaiting (r - 1) no_action (omega (arith, row.some, row.upto))).some

  pub stands : StandsFor p rows (slice_index new.items x - 1) a.agent a.number
  stands =
      let (b, place, own) = noted.each is.from some in
      let same : b.agent ≡ a.agent = row_own p b a (omega (arith, place, low)) (omega (arith, place, is.upto)) in
      let e : b ≡ record { agent = a.agent; number = b.number } = (λ t. record { agent = same t; number = b.number }) in
      let row : IsRowOrNone rows (slice_index old.items is.from - 1) (record { agent = a.agent; number = b.number }) = subst (IsRowOrNone rows (slice_index old.items is.from - 1)) e own in
      subst (λ (n : ℕ). StandsFor p rows (n - 1) a.agent a.number) (sym is.same) (record {
        number = b.number;
        upto = elim row [
          | inl none ↦ omega (arith, none.1)
          | inr k ↦ elim (cases_lt a.number b.number) [ inr le ↦ le | inl more ↦ absurd (omega (arith, row_less p a.agent a.number b.number more (awaits b.number _ k), ap (row_place p) e, place, is.upto)) ]
        ];
        quiet = λ m from le. (
            let act : IsAction p (record { agent = a.agent; number = m }) = record { agent = up.agent; first = omega (arith, from); last = omega (arith, le, up.last) } in
            elim (has (record { agent = a.agent; number = m }) act) [
              | inr adds ↦ adds
              | inl (r, k) ↦
                  let here : 1 ≤ slice_index old.items (row_place p (record { agent = a.agent; number = m })) = subst (λ (c : ActionId). 1 ≤ slice_index old.items (row_place p c)) k.of (noted.some (r - 1) (omega (arith, k.some, k.upto))) in
                  absurd (omega (arith, here, is.none (row_place p (record { agent = a.agent; number = m })) (omega (arith, row_less p a.agent b.number m from (awaits m r k), ap (row_place p) e, place)) (row_rises p a.agent m a.number le)))
            ]);
        row = row;
      })

-- what the rows of these actions need, with those of one more
needs_next : (p : Program) (m : RowTable) (rows : List ActionId) (n : ℕ) → n < length rows → flat_map (needs_of p m) (take (n + 1) rows) ≡ flat_map (needs_of p m) (take n rows) ++ needs_of p m (action_at rows n)
needs_next p m rows n l = ap (flat_map (needs_of p m)) (take_more rows n no_action l) ∙ sym (flat_map_more (needs_of p m) [] (take n rows) (action_at rows n))

pub needs_more : (p : Program) (m : RowTable) (rows : List ActionId) (n : ℕ) → n < length rows → length (flat_map (needs_of p m) (take (n + 1) rows)) ≡ length (flat_map (needs_of p m) (take n rows)) + length (awaits_of p (action_at rows n).agent (action_at rows n).number)
needs_more p m rows n l =
    let a : ActionId = action_at rows n in
    omega (arith, ap (λ (xs : List Need). length xs) (needs_next p m rows n l), length-append (flat_map (needs_of p m) (take n rows)) (needs_of p m a), length-map (awaits_of p a.agent a.number) (need_for p m))

-- one row more
module _ (p : Program) (m : RowTable) (old new : Joins) (n key : ℕ) (l : n < length (rows_of old)) (put : new.keys.items ≡ set old.keys.items n key) (named : action_of_key key ≡ action_at (rows_of old) n) (base : value_of_key key ≡ row_of p m (action_before (action_at (rows_of old) n)))
    (more : needs_in new.awaits ≡ needs_in old.awaits ++ needs_of p m (action_at (rows_of old) n)) (end : new.ends.items ≡ set old.ends.items (n + 1) (length new.awaits.items)) (h : AreListedTo p (rows_of old) m n old) where
  abbrev rows : List ActionId
  rows = rows_of old

  within : n < length old.keys.items
  within = omega (arith, l, length-map old.keys.items action_of_key)

  all : needs_in new.awaits ≡ flat_map (needs_of p m) (take (n + 1) rows)
  all = more ∙ ap (λ (xs : List Need). xs ++ needs_of p m (action_at rows n)) h.awaits ∙ sym (needs_next p m rows n l)

  pub listed_more : AreListedTo p rows m (n + 1) new
  listed_more = record {
    range = h.range;
    room = h.room;
    actions = h.actions;
    same = ap (map action_of_key) put ∙ map-set_same action_of_key old.keys.items n key 0 (named ∙ get_or-map action_of_key old.keys.items n 0 no_action within);
    bases = λ i less. ap (λ (xs : List ℕ). value_of_key (slice_index xs i)) put ∙ elim (cases_eq i n) [
      | inl e ↦ ap (λ (j : ℕ). value_of_key (slice_index (set old.keys.items n key) j)) e ∙ ap value_of_key (get_or-set_same old.keys.items n key 0 within) ∙ base ∙ ap (λ (j : ℕ). row_of p m (action_before (action_at rows j))) (sym e)
      | inr ne ↦ ap value_of_key (get_or-set_other old.keys.items n i key 0 ne) ∙ h.bases i (omega (arith, less, ne))
    ];
    awaits = all;
    all = ap (λ (xs : List ℕ). length xs) end ∙ length-set old.ends.items (n + 1) (length new.awaits.items) ∙ h.all;
    ends = λ i le. ap (λ (xs : List ℕ). slice_index xs i) end ∙ elim (cases_eq i (n + 1)) [
      | inr ne ↦ get_or-set_other old.ends.items (n + 1) i (length new.awaits.items) 0 ne ∙ h.ends i (omega (arith, le, ne))
      | inl e ↦ subst (λ (k : ℕ). slice_index (set old.ends.items (n + 1) (length new.awaits.items)) k ≡ length (flat_map (needs_of p m) (take k rows))) (sym e)
          (get_or-set_same old.ends.items (n + 1) (length new.awaits.items) 0 (omega (arith, l, h.all)) ∙ sym (length-map new.awaits.items need_of_key) ∙ ap (λ (xs : List Need). length xs) all)
    ];
  }
