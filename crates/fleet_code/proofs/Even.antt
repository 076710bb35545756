-- Offsets of which those after one are as far from each other.
use Rattle.fleet_code.proofs.Words.{◌≡◌, ℕ, zero, suc, refl, ◌+◌, ◌-◌, ◌*◌, ◌^◌, ◌≤◌, ◌<◌, List, [], ◌∷◌, length, map, min, take, slice_index_or, get_or, ap, sym, ◌∙◌, arith, inl, inr, range_with_len, cases_eq, cases_lt, same_number_lists, get_or_append_left, length-append, length-take, get_or-take, get_or-range_with_len, length-range_with_len, get_or-map-range_with_len, length-map-range_with_len, further, offsets_of, AreOffsets, IsEvenFrom}
use Rattle.std.proofs.Math.Nat.{suc-mul}
use Rattle.std.proofs.Math.Seq.{get_or-append_right}

-- ---- where offsets are even

pub even_more : (offsets : List ℕ) (at stride : ℕ) → IsEvenFrom offsets (at + 1) stride → slice_index_or offsets at 0 + stride ≡ slice_index_or offsets (at + 1) 0 → IsEvenFrom offsets at stride
even_more offsets at stride h e n a b = elim (cases_eq n at) [
  | inl same ↦ rw same (let z : at - at ≡ 0 = omega arith in rw z (omega arith))
  | inr other ↦
      let one : n - at ≡ suc (n - (at + 1)) = omega (arith, a, other) in
      let later = h n (omega (arith, a, other)) b in
      let grown : suc (n - (at + 1)) * stride ≡ (n - (at + 1)) * stride + stride = suc-mul (n - (at + 1)) stride in
      rw (one, grown) (omega (arith, later, e))
]

-- ---- bytes of one action each

pub bare_offsets_at : (actions n : ℕ) → n < actions + 1 → slice_index_or (range_with_len 0 (actions + 1)) n 0 ≡ n
bare_offsets_at actions n l = get_or-range_with_len 0 (actions + 1) n 0 l ∙ omega arith

pub are_bare_offsets : (actions stride : ℕ) → actions < 2 ^ 32 - 1 → AreOffsets actions (offsets_of actions stride [])
are_bare_offsets actions stride few = record {
  count = length-range_with_len 0 (actions + 1);
  fit = λ k d l. let here = get_or-range_with_len 0 (actions + 1) k d (omega (arith, l, length-range_with_len 0 (actions + 1))) in let inside : k < actions + 1 = omega (arith, l, length-range_with_len 0 (actions + 1)) in omega (arith, here, inside, few);
}

-- ---- the offsets that are kept, and those after them

pub kept_at : (actions stride : ℕ) (kept : List ℕ) (n : ℕ) → n < length kept → slice_index_or (offsets_of actions stride kept) n 0 ≡ slice_index_or kept n 0
kept_at actions stride [] n l = absurd (omega arith)
kept_at actions stride (o ∷ kept) n l = get_or_append_left (o ∷ kept) (further (slice_index_or (o ∷ kept) (length kept) 0) stride (actions + 1 - length (o ∷ kept))) 0 n l

pub further_at : (actions stride : ℕ) (kept : List ℕ) (n : ℕ) → 0 < length kept → length kept ≤ n → n < actions + 1
    → slice_index_or (offsets_of actions stride kept) n 0 ≡ slice_index_or kept (length kept - 1) 0 + (n - (length kept - 1)) * stride
further_at actions stride [] n some l m = absurd (omega arith)
further_at actions stride (o ∷ kept) n some l m =
    let xs : List ℕ = o ∷ kept in
    let last : ℕ = slice_index_or xs (length kept) 0 in
    let rest : ℕ = actions + 1 - length xs in
    let f : ℕ → ℕ = λ k. last + (k + 1) * stride in
    let one : length xs - 1 ≡ length kept = omega arith in
    let back : (n - length xs) + 1 ≡ n - length kept = omega (arith, l) in
    let there : get_or (map f (range_with_len 0 rest)) (n - length xs) 0 ≡ f (n - length xs) = get_or-map-range_with_len f 0 rest (n - length xs) (n - length xs) 0 (omega (arith, l, m)) (omega arith) in
    get_or-append_right xs (map f (range_with_len 0 rest)) n 0 l ∙ (there ∙ (ap (λ k. last + k * stride) back ∙ sym (ap (λ k. slice_index_or xs k 0 + (n - k) * stride) one)))

pub as_long : (actions stride : ℕ) (kept : List ℕ) → length kept ≤ actions + 1 → length (offsets_of actions stride kept) ≡ actions + 1
as_long actions stride [] l = length-range_with_len 0 (actions + 1)
as_long actions stride (o ∷ kept) l =
    let xs : List ℕ = o ∷ kept in
    let rest : ℕ = actions + 1 - length xs in
    let f : ℕ → ℕ = λ k. slice_index_or xs (length kept) 0 + (k + 1) * stride in
    omega (arith, l, length-append xs (map f (range_with_len 0 rest)), length-map-range_with_len f 0 rest)

-- even offsets follow from those up to the first of them
pub offsets_are : (actions stride : ℕ) (offsets : List ℕ) (at : ℕ) → length offsets ≡ actions + 1 → at < length offsets → IsEvenFrom offsets at stride → offsets_of actions stride (take (at + 1) offsets) ≡ offsets
offsets_are actions stride offsets at many l even = same_number_lists (offsets_of actions stride kept) offsets (long ∙ sym many) (λ k m. each k (omega (arith, m, long)))
  where
    kept : List ℕ
    kept = take (at + 1) offsets

    few : length kept ≡ at + 1
    few = let e : min (at + 1) (length offsets) ≡ at + 1 = omega (arith, l) in length-take (at + 1) offsets ∙ e

    long : length (offsets_of actions stride kept) ≡ actions + 1
    long = as_long actions stride kept (omega (arith, few, many, l))

    each : (k : ℕ) → k < actions + 1 → slice_index_or (offsets_of actions stride kept) k 0 ≡ slice_index_or offsets k 0
    each k m = elim (cases_lt k (at + 1)) [
      | inl in_kept ↦ kept_at actions stride kept k (omega (arith, few, in_kept)) ∙ get_or-take (at + 1) offsets k 0 in_kept
      | inr beyond ↦
          let one : length kept - 1 ≡ at = omega (arith, few) in
          let there = further_at actions stride kept k (omega (arith, few)) (omega (arith, few, beyond)) m in
          let last : slice_index_or kept at 0 ≡ slice_index_or offsets at 0 = get_or-take (at + 1) offsets at 0 (omega arith) in
          there ∙ (ap (λ x. slice_index_or kept x 0 + (k - x) * stride) one ∙ (ap (λ x. x + (k - at) * stride) last ∙ sym (even k (omega (arith, beyond)) (omega (arith, many, m)))))
    ]

pub none_kept : (actions stride : ℕ) (kept : List ℕ) (n : ℕ) → length kept ≡ 0 → n < actions + 1 → slice_index_or (offsets_of actions stride kept) n 0 ≡ n
none_kept actions stride [] n none l = bare_offsets_at actions n l
none_kept actions stride (o ∷ kept) n none l = absurd (omega arith)

-- ---- offsets of actions of which the first alone has more than one opcode

pub later_even : (actions first : ℕ) → IsEvenFrom (0 ∷ range_with_len first actions) 1 1
later_even actions first zero a b = absurd (omega (arith, a))
later_even actions first (suc n) a b =
    let long = length-range_with_len first actions in
    let within : n < actions = omega (arith, b, long) in
    let some : 0 < actions = omega (arith, within) in
    let here = get_or-range_with_len first actions n 0 within in
    let one = get_or-range_with_len first actions 0 0 some in
    omega (arith, here, one)

front : (actions first : ℕ) → 1 ≤ actions → take 2 (0 ∷ range_with_len first actions) ≡ 0 ∷ first ∷ []
front zero first l = absurd (omega (arith, l))
front (suc n) first l = refl

pub later_offsets : (actions first : ℕ) → 1 ≤ actions → offsets_of actions 1 (0 ∷ first ∷ []) ≡ 0 ∷ range_with_len first actions
later_offsets actions first some =
    let long = length-range_with_len first actions in
    ap (offsets_of actions 1) (sym (front actions first some)) ∙ offsets_are actions 1 (0 ∷ range_with_len first actions) 1 (omega (arith, long)) (omega (arith, long, some)) (later_even actions first)

pub are_later_offsets : (actions first : ℕ) → first + actions < 2 ^ 32 → AreOffsets actions (0 ∷ range_with_len first actions)
are_later_offsets actions first few = record { count = omega (arith, length-range_with_len first actions); fit = fit }
  where
    fit : (k d : ℕ) → k < length (0 ∷ range_with_len first actions) → get_or (0 ∷ range_with_len first actions) k d < 2 ^ 32
    fit zero d l = omega (arith, few)
    fit (suc k) d l =
        let within : k < actions = omega (arith, l, length-range_with_len first actions) in
        let here = get_or-range_with_len first actions k d within in
        omega (arith, here, within, few)
