use Rattle.fleet_code.proofs.Words.{◌≡◌, ◌+◌, ◌-◌, ◌*◌, ◌^◌, ◌<◌, ◌≤◌, ℕ, List, length, slice_index_or, ap, sym, ◌∙◌, arith, get_or_default, offsets_of}
use Rattle.fleet_code.proofs.Even.{kept_at, further_at, none_kept}
use Rattle.fleet_code.proofs.offsets.ActionOffsets.get.Goals as goal

pub returns-then-keeps_none : goal.returns-then-keeps_none
returns-then-keeps_none c =
    let in_all = c.self.inside in
    let few : c.args.n < in_all.actions + 1 = let n = c.requires in let same = ap (λ (xs : List ℕ). length xs) c.self.view_is in omega (arith, n, same, c.self.invariant.count) in
    let none : length in_all.kept.items ≡ 0 = omega (arith, c.len-kept.ensures, in_all.kept.ok.0, c.if-keeps_none.true) in
    sym (none_kept in_all.actions in_all.stride in_all.kept.items c.args.n none few) ∙ ap (λ (xs : List ℕ). slice_index_or xs c.args.n 0) c.self.view_is

pub returns-then-is_kept : goal.returns-then-is_kept
returns-then-is_kept c =
    let in_all = c.self.inside in
    let l : c.args.n < length in_all.kept.items = omega (arith, c.len-kept.ensures, in_all.kept.ok.0, c.if-is_kept.true) in
    c.index.ensures ∙ (get_or_default in_all.kept.items c.args.n c.index.result.now 0 l ∙ (sym (kept_at in_all.actions in_all.stride in_all.kept.items c.args.n l) ∙ ap (λ (xs : List ℕ). slice_index_or xs c.args.n 0) c.self.view_is))

-- the offset that is told beyond those that are kept
pub returns : goal.returns
returns c =
    let in_all = c.self.inside in
    let kept = in_all.kept.items in
    let long : c.len-kept.result ≡ length kept = omega (arith, c.len-kept.ensures, in_all.kept.ok.0) in
    let inside : c.args.n < in_all.actions + 1 = let n = c.requires in let same = ap (λ (xs : List ℕ). length xs) c.self.view_is in omega (arith, n, same, c.self.invariant.count) in
    let some : 0 < length kept = omega (arith, long, c.if-keeps_none.false) in
    let beyond : length kept ≤ c.args.n = omega (arith, long, c.if-is_kept.false) in
    let told = further_at in_all.actions in_all.stride kept c.args.n some beyond inside in
    let last : c.index-2.result.now ≡ slice_index_or kept (length kept - 1) 0 = c.index-2.ensures ∙ (get_or_default kept (c.len-kept.result - 1) c.index-2.result.now 0 (omega (arith, long, some)) ∙ ap (λ (m : ℕ). slice_index_or kept (m - 1) 0) long) in
    ap (λ (m : ℕ). c.index-2.result.now + (c.args.n - (m - 1)) * in_all.stride) long
    ∙ (ap (λ (o : ℕ). o + (c.args.n - (length kept - 1)) * in_all.stride) last ∙ (sym told ∙ ap (λ (xs : List ℕ). slice_index_or xs c.args.n 0) c.self.view_is))

pub overflow_add-result : goal.overflow_add-result
overflow_add-result c =
    let in_all = c.self.inside in
    let kept = in_all.kept.items in
    let all = offsets_of in_all.actions in_all.stride kept in
    let long : c.len-kept.result ≡ length kept = omega (arith, c.len-kept.ensures, in_all.kept.ok.0) in
    let inside : c.args.n < in_all.actions + 1 = let n = c.requires in let same = ap (λ (xs : List ℕ). length xs) c.self.view_is in omega (arith, n, same, c.self.invariant.count) in
    let some : 0 < length kept = omega (arith, long, c.if-keeps_none.false) in
    let beyond : length kept ≤ c.args.n = omega (arith, long, c.if-is_kept.false) in
    let told = further_at in_all.actions in_all.stride kept c.args.n some beyond inside in
    let last : c.index-2.result.now ≡ slice_index_or kept (length kept - 1) 0 = c.index-2.ensures ∙ (get_or_default kept (c.len-kept.result - 1) c.index-2.result.now 0 (omega (arith, long, some)) ∙ ap (λ (m : ℕ). slice_index_or kept (m - 1) 0) long) in
    let sum : c.index-2.result.now + (c.args.n - (c.len-kept.result - 1)) * in_all.stride ≡ slice_index_or all c.args.n 0 =
    ap (λ (m : ℕ). c.index-2.result.now + (c.args.n - (m - 1)) * in_all.stride) long ∙ (ap (λ (o : ℕ). o + (c.args.n - (length kept - 1)) * in_all.stride) last ∙ sym told) in
    let few : slice_index_or all c.args.n 0 < 2 ^ 32 = c.self.invariant.fit c.args.n 0 (omega (arith, inside, c.self.invariant.count)) in
    omega (arith, sum, few)

pub overflow_mul-result : goal.overflow_mul-result
overflow_mul-result c =
    let in_all = c.self.inside in
    let kept = in_all.kept.items in
    let all = offsets_of in_all.actions in_all.stride kept in
    let long : c.len-kept.result ≡ length kept = omega (arith, c.len-kept.ensures, in_all.kept.ok.0) in
    let inside : c.args.n < in_all.actions + 1 = let n = c.requires in let same = ap (λ (xs : List ℕ). length xs) c.self.view_is in omega (arith, n, same, c.self.invariant.count) in
    let some : 0 < length kept = omega (arith, long, c.if-keeps_none.false) in
    let beyond : length kept ≤ c.args.n = omega (arith, long, c.if-is_kept.false) in
    let told = further_at in_all.actions in_all.stride kept c.args.n some beyond inside in
    let factor : (c.args.n - (c.len-kept.result - 1)) * in_all.stride ≡ (c.args.n - (length kept - 1)) * in_all.stride = ap (λ (m : ℕ). (c.args.n - (m - 1)) * in_all.stride) long in
    let few : slice_index_or all c.args.n 0 < 2 ^ 32 = c.self.invariant.fit c.args.n 0 (omega (arith, inside, c.self.invariant.count)) in
    omega (arith, told, factor, few)
