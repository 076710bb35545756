use Rattle.fleet_code.proofs.Words.{◌≡◌, ◌++◌, ◌∷◌, [], ℕ, List, sym, ap, ◌∙◌, subst, offsets_of, AreOffsets}
use Rattle.fleet_code.proofs.Even.{later_offsets, are_later_offsets}
use Rattle.fleet_code.proofs.offsets.ActionOffsets.bare_after.Goals as goal

pub invariant_of-result : goal.invariant_of-result
invariant_of-result c =
    let first = c.args.first in
    let kept : c.push-2.new.self.items ≡ 0 ∷ first ∷ [] = c.in_ok-push-2.ensures.items ∙ ap (λ (xs : List ℕ). xs ++ first ∷ []) (c.in_ok-push.ensures.items ∙ ap (λ (xs : List ℕ). xs ++ 0 ∷ []) c.in_ok-kept.ensures.items) in
    subst (AreOffsets c.args.actions) (sym (ap (offsets_of c.args.actions 1) kept ∙ later_offsets c.args.actions first c.requires.some)) (are_later_offsets c.args.actions first c.requires.few)

pub returns : goal.returns
returns c =
    let first = c.args.first in
    let kept : c.push-2.new.self.items ≡ 0 ∷ first ∷ [] = c.in_ok-push-2.ensures.items ∙ ap (λ (xs : List ℕ). xs ++ first ∷ []) (c.in_ok-push.ensures.items ∙ ap (λ (xs : List ℕ). xs ++ 0 ∷ []) c.in_ok-kept.ensures.items) in
    ap (offsets_of c.args.actions 1) kept ∙ later_offsets c.args.actions first c.requires.some
