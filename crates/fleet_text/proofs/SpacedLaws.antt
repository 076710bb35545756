-- The words of a line that has one space between two.
use Rattle.std.proofs.Common.{◌≡◌, ℕ, ◌+◌, ◌<◌, true, [], ◌∷◌, length, take, drop, None, Some, eqb-true, ap, subst, arith}
use Rattle.std.specs.Prelude.{codes, position}
use Rattle.std.specs.List.{slice_split}
use Rattle.std.proofs.lemmas.List.Splits.{slice_split_first}
use Rattle.fleet_text.specs.Text.{Bytes, is_space, is_dash}
use Rattle.fleet_text.proofs.TextLaws.{found_at, found_nowhere, split_none}

pub cut_at : (line : Bytes) (end : ℕ) → position is_space line ≡ Some end
    → (slice_split is_space line ≡ take end line ∷ slice_split is_space (drop (end + 1) line)) × (end < length line)
cut_at line end e =
    let f = found_at is_space line end e in (
      subst (λ (i : ℕ). slice_split is_space line ≡ take i line ∷ slice_split is_space (drop (i + 1) line)) f.0 (slice_split_first is_space line 0 f.1),
      omega (arith, f.0, f.1),
    )

pub cut_nowhere : (line : Bytes) → position is_space line ≡ None → slice_split is_space line ≡ line ∷ []
cut_nowhere line e = split_none is_space line (found_nowhere is_space line e)

pub dash_is : (line : Bytes) → is_dash line ≡ true → line ≡ codes "-"
dash_is [] e = absurd cc
dash_is (b ∷ []) e = ap (λ (x : ℕ). x ∷ []) (eqb-true b 45 e)
dash_is (b ∷ c ∷ bs) e = absurd cc
