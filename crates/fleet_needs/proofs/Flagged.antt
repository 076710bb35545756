-- The flags of awaits, one action and one block more.
use Rattle.std.specs.Prelude.{count_by}
use Rattle.fleet_needs.proofs.Words.{None, ◌≡◌, ℕ, ◌+◌, ◌-◌, ◌≤◌, Bool, true, false, List, length, get_or, replicate, length-replicate, set, sym, ap, subst, ◌∙◌, arith, inl, inr, ◌⊎◌, slice_get, Some, cases_lt, cases_eq, false≢true, slice_get_within, slice_get-get_or, same_Some, ActionId, Await, Program, awaits_of, total_awaits, AreInRange, IsAction, column_of, AreColumns, SlotRows, IsImpliedFlag, first_await, AreAwaitPlaces, AreSettled, AreSettledTo, AreSure, AreSet, IsLeftOut, IsLeftIn, AreFlaggedIn, AreFlaggedTo, AreImplied, flags_of, ImpliedAwaits, HasRowUnlessSet, IsRow, IsPassed, joins_in, joins_of, next_action}
use Rattle.fleet_needs.proofs.{AwaitOrder.flag_within, AwaitOrder.known_on, AwaitOrder.known_put, Counting.always_at, Counting.none_set, Joining.awaited_action, Joining.adds_none_if_implied}

-- no flag is set yet
pub none_flagged : (p : Program) (asked : List Bool) (m : ImpliedAwaits) (n : ℕ) → AreAwaitPlaces p m.places → flags_of m ≡ replicate n false → n ≡ total_awaits p → AreSettledTo p asked 0 m
none_flagged p asked m n places none all = record {
  places = places;
  all = ap (λ (xs : List Bool). length xs) none ∙ length-replicate n false ∙ all;
  known = λ a is k w at. inl (inl (omega arith), (λ set. absurd (false≢true (sym (ap (λ (xs : List Bool). get_or xs (first_await p a + k) false) none ∙ always_at false n (first_await p a + k)) ∙ set))));
}

-- a flag is set only of an await that others imply
pub sure_of : (p : Program) (asked : List Bool) (m : ImpliedAwaits) → AreSettled p asked m → AreSure p (flags_of m)
sure_of p asked m h a is k w at = elim (h.known a is k w at) [ inl it ↦ it.1 | inr told ↦ told.0 ]

-- no await stands past the last one
none_past : (p : Program) (a : ActionId) (k : ℕ) (w : Await) → IsAction p a → slice_get (awaits_of p a.agent a.number) k ≡ Some w → total_awaits p ≤ first_await p a + k → ⊥
none_past p a k w is at past = omega (arith, past, flag_within p a is, slice_get_within (awaits_of p a.agent a.number) k w at)

-- if no agent is asked for, all flags say whether their await is implied
pub flagged_if_none : (p : Program) (asked : List Bool) (m : ImpliedAwaits) → count_by (λ (flag : Bool). flag) asked ≡ 0 → AreSettled p asked m → AreImplied p m
flagged_if_none p asked m none = known_on p _ _ m (λ a is k w at left. elim left [ inl past ↦ none_past p a k w is at past | inr set ↦ none_set asked none w.agent set ])

-- ---- the awaits that are left

-- one await of a row more
module _ (p : Program) (rows : SlotRows) (n k : ℕ) (a : ActionId) (row : IsRow (joins_of rows.schedule) (n + 1) a) (w : Await) (at : slice_get (awaits_of p a.agent a.number) k ≡ Some w) where
  left_on : (b : ActionId) (j : ℕ) (v : Await) → IsLeftIn rows n k b j v → IsLeftIn rows n (k + 1) b j v ⊎ ((b ≡ a) × (j ≡ k))
  left_on b j v (h, inl past) = inl (h, inl past)
  left_on b j v (h, inr (inl later)) = inl (h, inr (inl later))
  left_on b j v (h, inr (inr (e, from))) = elim (cases_lt k j) [
    | inl more ↦ inl (h, inr (inr (e, omega arith)))
    | inr less ↦ inr (sym h.of.of ∙ ap (λ (r : ℕ). next_action rows.schedule (r - 1)) e ∙ row.of, omega arith)
  ]

  -- whose agent has no column
  pub flag_passed : (m : ImpliedAwaits) → AreColumns rows.asked.items rows.columns.first rows.columns → column_of rows.columns w.agent ≡ None → AreFlaggedIn p rows n k m → AreFlaggedIn p rows n (k + 1) m
  flag_passed m chosen none = known_on p _ _ m
      (λ b is j v there left. elim (left_on b j v left) [
        | inl on ↦ on
        | inr (e, f) ↦
            let same : v ≡ w = same_Some v w (sym there ∙ ap (slice_get (awaits_of p b.agent b.number)) f ∙ ap (λ (x : ActionId). slice_get (awaits_of p x.agent x.number) k) e ∙ at) in
            elim (cases_lt v.agent rows.columns.end) [
              | inl low ↦ absurd (chosen.chosen v.agent left.0.upon low left.0.asks (ap (λ (x : Await). column_of rows.columns x.agent) same ∙ none))
              | inr past ↦ (left.0, inl past)
            ]
      ])

  -- .. or whose flag is set right
  pub flag_put : (old new : ImpliedAwaits) (flag : Bool) → IsAction p a → IsImpliedFlag p a w flag → new.places ≡ old.places → flags_of new ≡ set (flags_of old) (first_await p a + k) flag → AreFlaggedIn p rows n k old → AreFlaggedIn p rows n (k + 1) new
  flag_put old new flag is right places put = known_put p _ _ a is k w at old new flag places put
      (λ b j v there ne left. elim (left_on b j v left) [ inl on ↦ on | inr (e, f) ↦ absurd (ne (ap (λ (x : ActionId). first_await p x + j) e ∙ ap (λ (x : ℕ). first_await p a + x) f)) ]) (inr right)

-- all awaits of a row
pub row_flagged : (p : Program) (rows : SlotRows) (n k : ℕ) (a : ActionId) → IsRow (joins_of rows.schedule) (n + 1) a → k ≡ length (awaits_of p a.agent a.number) → (m : ImpliedAwaits) → AreFlaggedIn p rows n k m → AreFlaggedIn p rows (n + 1) 0 m
row_flagged p rows n k a row all m = known_on p _ _ m
    (λ b is j v there left. elim left.1 [
      | inl past ↦ (left.0, inl past)
      | inr (inl later) ↦ (left.0, inr (elim (cases_eq left.0.row (n + 1 + 1)) [ inl e ↦ inr (e, omega arith) | inr ne ↦ inl (omega (arith, later, ne)) ]))
      | inr (inr (e, from)) ↦
          let same : b ≡ a = sym left.0.of.of ∙ ap (λ (r : ℕ). next_action rows.schedule (r - 1)) e ∙ row.of in
          absurd (omega (arith, from, all, slice_get_within (awaits_of p b.agent b.number) j v there, ap (λ (x : ActionId). length (awaits_of p x.agent x.number)) same))
    ])

-- ---- block by block

-- before the first block
pub flags_first : (p : Program) (rows : SlotRows) (m : ImpliedAwaits) → AreSettled p rows.asked.items m → HasRowUnlessSet p (flags_of m) (joins_of rows.schedule) → (from : ℕ) → from ≡ 0 → AreFlaggedTo p rows from m
flags_first p rows m settled passed from zero = record {
  places = settled.places;
  all = settled.all;
  known = λ a is k w at. elim (settled.known a is k w at) [
    | inr known ↦ inr known
    | inl (inl past, sure) ↦ absurd (none_past p a k w is at past)
    | inl (inr asks, sure) ↦ elim (passed a is) [
      | inl (r, row) ↦ inl (record { row = r; of = row; asks = asks; upon = omega (arith, zero) }, sure)
      | inr set ↦ inr ((λ f. sure f), (λ i. set k w at))
    ]
  ];
}

-- before the first row of a block
pub flags_begun : (p : Program) (rows : SlotRows) (m : ImpliedAwaits) → AreFlaggedTo p rows rows.columns.first m → AreFlaggedIn p rows 0 0 m
flags_begun p rows m = known_on p _ _ m (λ a is k w at left. (left, inr (elim (cases_eq left.row 1) [ inl e ↦ inr (e, omega arith) | inr ne ↦ inl (omega (arith, ne, left.of.some)) ])))

-- after its last one
pub flags_after : (p : Program) (rows : SlotRows) (n : ℕ) (m : ImpliedAwaits) → joins_in rows.schedule ≤ n → AreFlaggedIn p rows n 0 m → AreFlaggedTo p rows rows.columns.end m
flags_after p rows n m all = known_on p _ _ m
    (λ a is k w at left. record {
      row = left.0.row;
      of = left.0.of;
      asks = left.0.asks;
      upon = elim left.1 [
        | inl past ↦ past
        | inr later ↦ absurd (elim later [ inl more ↦ omega (arith, more, left.0.of.upto, all) | inr last ↦ omega (arith, last.0, left.0.of.upto, all) ])
      ];
    })

-- after the last block
pub flags_end : (p : Program) → AreInRange p → (rows : SlotRows) (from : ℕ) (m : ImpliedAwaits) → length p ≤ from → AreFlaggedTo p rows from m → AreImplied p m
flags_end p range rows from m end = known_on p _ _ m (λ a is k w at left. let there = awaited_action p range a.agent a.number k w at in omega (arith, there.agent, end, left.upon))

-- ---- an action of one await, the flag of which is set

pub passed_one : (p : Program) (flags : List Bool) (a : ActionId) → AreSure p flags → IsAction p a → IsLeftOut p flags a → IsPassed p flags a
passed_one p flags a sure is (one, set) = ((let at = slice_get-get_or (awaits_of p a.agent a.number) 0 (record { agent = 0; count = 0 }) (omega (arith, one)) in adds_none_if_implied p a _ one at (sure a is 0 _ at (all 0 _ at))), all)
  where
    all : AreSet p flags a
    all k w at =
        let e : first_await p a ≡ first_await p a + k = (let l = slice_get_within (awaits_of p a.agent a.number) k w at in omega (arith, l, one)) in
        subst (λ (n : ℕ). get_or flags n false ≡ true) e set
