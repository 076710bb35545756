-- The sizes of a map, whose numbers are read as no more than a bound.
use Rattle.std.proofs.Common.{◌≡◌, ℕ, Bool, false, ◌&&◌, min, List, [], ◌∷◌, drop, Option, Some, None, Result, Ok, Err, refl, sym, ap, ◌∙◌, arith, ◌⊎◌, inl, inr}
use Rattle.std.specs.Prelude.{if◌then◌else◌, IfOk, option_map, is_none, codes}
use Rattle.std.proofs.lemmas.Bool.{cases_Bool}
use Rattle.std.proofs.lemmas.Bool.Decides.{leb_tells, nat_tests}
use Rattle.std.proofs.Math.Bool.{and-false}
use Rattle.fleet_text.specs.Text.{Bytes, words_from_front}
use Rattle.fleet_text.specs.Steps.{◌>>◌, right_or}
use Rattle.fleet_grid.specs.declared.fault.MapFault.{MapFault}
use Rattle.fleet_grid.specs.declared.fault.MapFault.TheVariants.{Header, Size}
use Rattle.fleet_grid.specs.MapText.{line_at}
use Rattle.fleet_grid.specs.MapReading.{field, number_field, is_alone, is_side, header_at}
use Rattle.fleet_text.specs.declared.numbers.TheConstants.{TOO_LONG}

cut_side : (n : ℕ) → (min n TOO_LONG ≡ n) ⊎ ((is_side n ≡ false) × (is_side (min n TOO_LONG) ≡ false))
cut_side n = elim (leb_tells n 4096) [
  | inl e ↦ inl (omega (arith, e.1))
  | inr e ↦ inr (grind (arith, nat_tests), grind (arith, nat_tests))
]

-- the sizes, if both are sides of a map
abbrev sizes_if : (height width : ℕ) → Result (ℕ × ℕ) MapFault
sizes_if height width = if is_side height && is_side width then Ok (width, height) else Err Size

as_steps : (height width : ℕ) → sizes_if height width ≡ (right_or (is_side height && is_side width) Size >> Ok (width, height))
as_steps height width =
    elim (cases_Bool (is_side height && is_side width)) [
      | inl e ↦ rw e refl
      | inr e ↦ rw e refl
    ]

cut_sizes : (height width : ℕ) → sizes_if (min height TOO_LONG) (min width TOO_LONG) ≡ (right_or (is_side height && is_side width) Size >> Ok (width, height))
cut_sizes height width =
    elim (cut_side height) [
      | inl h ↦ elim (cut_side width) [
        | inl w ↦ rw (h, w) (as_steps height width)
        | inr w ↦ rw (w.0, w.1, and-false (is_side height), and-false (is_side (min height TOO_LONG))) refl
      ]
      | inr h ↦ rw (h.0, h.1) refl
    ]

cut_some : (o : Option ℕ) (n : ℕ) → option_map (λ k. min k TOO_LONG) o ≡ Some n → (k : ℕ) × (o ≡ Some k) × (n ≡ min k TOO_LONG)
cut_some None n e = absurd cc
cut_some (Some k) n e = (k, refl, cc)

-- ---- the lines, of which each is the first that the one before it left

second : (ls : List Bytes) → line_at (drop 1 ls) 0 ≡ line_at ls 1
second [] = refl
second (a ∷ ls) = refl

third : (ls : List Bytes) → line_at (drop 1 (drop 1 ls)) 0 ≡ line_at ls 2
third [] = refl
third (a ∷ ls) = second ls

fourth : (ls : List Bytes) → line_at (drop 1 (drop 1 (drop 1 ls))) 0 ≡ line_at ls 3
fourth [] = refl
fourth (a ∷ ls) = third ls

there : {A : Type 0} (o : Option A) → is_none o ≡ false → (x : A) × (o ≡ Some x)
there None e = absurd cc
there (Some x) e = (x, refl)

header_known : (ls : List Bytes) (kind : Bytes) (height width : ℕ) (alone : Bool) → field (codes "type") (line_at ls 0) ≡ Some kind → number_field (codes "height") (line_at ls 1) ≡ Some height → number_field (codes "width") (line_at ls 2) ≡ Some width
    → is_alone (codes "map") (words_from_front (line_at ls 3)) ≡ alone → header_at ls ≡ (right_or alone (Header 4) >> (right_or (is_side height && is_side width) Size >> Ok (width, height)))
unfolding header_at
header_known ls kind height width alone e f g h = rw (e, f, g, h) refl

-- a header whose first three lines are right
pub header_is : (ls : List Bytes) (height width : ℕ) → is_none (field (codes "type") (line_at ls 0)) ≡ false
    → option_map (λ k. min k TOO_LONG) (number_field (codes "height") (line_at (drop 1 ls) 0)) ≡ Some height
    → option_map (λ k. min k TOO_LONG) (number_field (codes "width") (line_at (drop 1 (drop 1 ls)) 0)) ≡ Some width
    → (alone : Bool) → alone ≡ is_alone (codes "map") (words_from_front (line_at (drop 1 (drop 1 (drop 1 ls))) 0))
    → header_at ls ≡ (right_or alone (Header 4) >> sizes_if height width)
header_is ls height width e f g alone h =
    let kind = there (field (codes "type") (line_at ls 0)) e in
    let hh = cut_some (number_field (codes "height") (line_at (drop 1 ls) 0)) height f in
    let ww = cut_some (number_field (codes "width") (line_at (drop 1 (drop 1 ls)) 0)) width g in
    let at_height : number_field (codes "height") (line_at ls 1) ≡ Some hh.0 = ap (number_field (codes "height")) (sym (second ls)) ∙ hh.1 in
    let at_width : number_field (codes "width") (line_at ls 2) ≡ Some ww.0 = ap (number_field (codes "width")) (sym (third ls)) ∙ ww.1 in
    let at_map : is_alone (codes "map") (words_from_front (line_at ls 3)) ≡ alone = ap (λ (line : Bytes). is_alone (codes "map") (words_from_front line)) (sym (fourth ls)) ∙ sym h in
    header_known ls kind.0 hh.0 ww.0 alone kind.1 at_height at_width at_map
    ∙ ap (λ (r : Result (ℕ × ℕ) MapFault). right_or alone (Header 4) >> r) (sym (cut_sizes hh.0 ww.0) ∙ ap (λ (n : ℕ). sizes_if n (min ww.0 TOO_LONG)) (sym hh.2) ∙ ap (sizes_if height) (sym ww.2))

pub if_ok : {A E : Type 0} (r : Result A E) (P : Type 0) → P → IfOk r (λ _. P)
if_ok (Ok x) P p = p
if_ok (Err e) P p = tt
