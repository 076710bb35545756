use Rattle.fleet_code.proofs.Words.{◌≡◌, ◌+◌, List, ℕ, ◌^◌, ◌<◌, length, take, ap, sym, ◌∙◌, subst, offsets_of, AreOffsets, IsEvenFrom}
use Rattle.fleet_code.proofs.Even.{offsets_are}
use Rattle.fleet_code.proofs.offsets.ActionOffsets.of.Goals as goal

pub invariant_of-result : goal.invariant_of-result
invariant_of-result c =
    let r = c.even_from-last.result in
    let even : IsEvenFrom c.args.offsets.items r.0 r.1 = subst (λ (xs : List ℕ). IsEvenFrom xs r.0 r.1) c.as_slice.ensures.value c.even_from-last.ensures.even in
    let within = subst (λ (xs : List ℕ). r.0 < length xs) c.as_slice.ensures.value c.even_from-last.ensures.first in
    let kept : c.front_of-kept.result.items ≡ take (r.0 + 1) c.args.offsets.items = c.front_of-kept.ensures in
    let same : offsets_of c.args.actions r.1 c.front_of-kept.result.items ≡ c.args.offsets.items = ap (offsets_of c.args.actions r.1) kept ∙ offsets_are c.args.actions r.1 c.args.offsets.items r.0 c.requires within even in
    subst (AreOffsets c.args.actions) (sym same) (record { count = c.requires; fit = subst (λ (xs : List ℕ). (k d : ℕ) → k < length xs → Rattle.std.proofs.Common.get_or xs k d < 2 ^ 32) c.as_slice.ensures.value c.even_from-last.ensures.fit })

pub returns : goal.returns
returns c =
    let r = c.even_from-last.result in
    let even : IsEvenFrom c.args.offsets.items r.0 r.1 = subst (λ (xs : List ℕ). IsEvenFrom xs r.0 r.1) c.as_slice.ensures.value c.even_from-last.ensures.even in
    let within = subst (λ (xs : List ℕ). r.0 < length xs) c.as_slice.ensures.value c.even_from-last.ensures.first in
    let kept : c.front_of-kept.result.items ≡ take (r.0 + 1) c.args.offsets.items = c.front_of-kept.ensures in
    ap (offsets_of c.args.actions r.1) kept ∙ offsets_are c.args.actions r.1 c.args.offsets.items r.0 c.requires within even
