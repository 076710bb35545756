-- Slots for rows, from the last row back to the first.
use Rattle.fleet_needs.proofs.Words.{◌≡◌, ◌≢◌, ℕ, zero, suc, ◌+◌, ◌<◌, ◌≤◌, List, [], ◌∷◌, ◌++◌, length, get_or, slice_index, Option, None, same_Some, none-some, refl, sym, ap, subst, ◌∙◌, arith, inl, inr, cases_lt, cases_eq, get_or-set_other, get_or_past, length-set, length_push, slice_set, AreSlotted, HasSlotNow, IsFree, IsHeld, TakesIn, base_of, end_of, need_at, owner_of, slot_in, slots_in, Joins, SlotTable}

-- the slot of a row is one of them
pub slot_within : (m : SlotTable) (r : ℕ) → HasSlotNow m r → slot_in m r < slots_in m
slot_within m r has = elim (cases_lt (slot_in m r) (slots_in m)) [
  | inl l ↦ l
  | inr past ↦ absurd (none-some r (sym (get_or_past m.owners (slot_in m r) None past) ∙ has))
]

-- .. and that of no other row
slots_apart : (m : SlotTable) (r x : ℕ) → r ≢ x → HasSlotNow m r → HasSlotNow m x → slot_in m r ≢ slot_in m x
slots_apart m r x ne has other same = ne (same_Some r x (sym has ∙ ap (owner_of m) same ∙ other))

-- none at the end is as none past it
none_last : (owners : List (Option ℕ)) (x : ℕ) → get_or (owners ++ None ∷ []) x None ≡ get_or owners x None
none_last [] zero = refl
none_last [] (suc x) = refl
none_last (o ∷ owners) zero = refl
none_last (o ∷ owners) (suc x) = none_last owners x

-- so a new slot is free
pub free_new : (old new : SlotTable) (slot : ℕ) → slot ≡ slots_in old → new.owners ≡ old.owners ++ None ∷ [] → new.outs ≡ old.outs → IsFree slot old new
free_new old new slot is put outs =
    let long : slots_in new ≡ slots_in old + 1 = ap (λ (xs : List (Option ℕ)). length xs) put ∙ length_push old.owners None in
    let same : (x : ℕ) → owner_of new x ≡ owner_of old x = λ x. ap (λ (xs : List (Option ℕ)). get_or xs x None) put ∙ none_last old.owners x in
    record { within = omega (arith, is, long); none = same slot ∙ get_or_past old.owners slot None (omega (arith, is)); more = omega (arith, long); same = same; outs = outs }

module _ (Takes : ℕ → ℕ → Type 0) (from n : ℕ) where
  -- a row that is taken, or the last one that is left
  pub held_on : (r : ℕ) (old new : SlotTable) → r ≤ n → IsHeld r old new → AreSlotted Takes from n old → AreSlotted Takes from n new
  held_on r old new low h was = record {
    within = λ x after upto. (let w = was.within x after (omega (arith, upto, h.rows)) in omega (arith, w, h.more, settled x after));
    taken = λ k x later takes upto. (h.kept x (was.taken k x later takes upto)).0;
    still = λ k x y later takes less after upto same. was.still k x y later takes less after upto (sym (settled y after) ∙ same ∙ stays k x later takes);
  }
    where
      settled : (x : ℕ) → n < x → slot_in new x ≡ slot_in old x
      settled x after = h.others x (λ e. omega (arith, e, after, low))

      stays : (k x : ℕ) → from ≤ k → Takes k x → slot_in new x ≡ slot_in old x
      stays k x later takes = elim (cases_lt n x) [ inl after ↦ settled x after | inr upto ↦ (h.kept x (was.taken k x later takes upto)).1 ]

-- one row more is settled: it has a slot, which is free before it is made
module _ (Takes : ℕ → ℕ → Type 0) (n : ℕ) (old mid : SlotTable) (h : IsHeld (n + 1) old mid) (slot : ℕ) (at : slot ≡ slice_index mid.outs (n + 1)) (was : AreSlotted Takes (n + 1) (n + 1) old) where
  abbrev new : SlotTable
  new = record { outs = mid.outs; owners = slice_set mid.owners slot None }

  held : AreSlotted Takes (n + 1) (n + 1) mid
  held = held_on Takes (n + 1) (n + 1) (n + 1) old mid (omega arith) h was

  pub row_ended : AreSlotted Takes (n + 1) n new
  row_ended = record {
    within = λ x after last. elim (cases_eq x (n + 1)) [
      | inl e ↦ omega (arith, ap (slot_in mid) e, slot_within mid (n + 1) h.here, length-set mid.owners slot None)
      | inr ne ↦ omega (arith, held.within x (omega (arith, after, ne)) last, length-set mid.owners slot None)
    ];
    taken = λ k r later takes low.
        let has = held.taken k r later takes (omega (arith, low)) in
        get_or-set_other mid.owners slot (slot_in mid r) None None (λ e. slots_apart mid r (n + 1) (λ f. omega (arith, f, low)) has h.here (e ∙ at)) ∙ has;
    still = λ k r x later takes less after last. elim (cases_eq x (n + 1)) [
      | inr ne ↦ held.still k r x later takes less (omega (arith, after, ne)) last
      | inl e ↦ (λ same. slots_apart mid (n + 1) r (λ f. omega (arith, f, e, less)) h.here (held.taken k r later takes (omega (arith, e, less))) (ap (slot_in mid) (sym e) ∙ same))
    ];
  }

-- ---- what a join takes

module _ (x : Joins) (n : ℕ) (m : SlotTable) (base : HasSlotNow m (base_of x n)) (each : (y : ℕ) → end_of x n ≤ y → y < end_of x (n + 1) → HasSlotNow m (need_at x y).row) where
  has_slot : (r : ℕ) → TakesIn x n r → HasSlotNow m r
  has_slot r (l, inl is) = subst (HasSlotNow m) (sym is) base
  has_slot r (l, inr (y, from, less, is)) = subst (HasSlotNow m) (sym is) (each y from less)

  -- once all of it has slots
  pub join_settled : AreSlotted (TakesIn x) (n + 1) n m → AreSlotted (TakesIn x) n n m
  join_settled was = record {
    within = was.within;
    taken = λ k r later takes upto. elim (cases_eq k n) [
      | inl e ↦ has_slot r (subst (λ (j : ℕ). TakesIn x j r) e takes)
      | inr ne ↦ was.taken k r (omega (arith, later, ne)) takes upto
    ];
    still = λ k r y later takes less after upto. was.still k r y (omega (arith, after, upto)) takes less after upto;
  }
