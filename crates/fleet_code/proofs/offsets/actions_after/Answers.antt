use Rattle.fleet_code.proofs.Words.{◌≡◌, ◌∷◌, [], ◌+◌, ◌∙◌, ℕ, List, length, vec_len, take, sym, ap, subst, arith, rules, take_all, err_from_is_err_and, actions_at, with_ends}
use Rattle.fleet_code.proofs.OffsetLoop.{EndsGoOn, ends_found, ends_failed, end_goes_on, end_fails, ends_done, ends_begin, one_filled}
use Rattle.fleet_code.proofs.offsets.actions_after.Goals as goal

pub returns-in_err-opcodes-clause-value : goal.returns-in_err-opcodes-clause-value
returns-in_err-opcodes-clause-value c =
    let p = err_from_is_err_and c.from_residual-in_err-opcodes.result c.from_residual-in_err-opcodes.ensures.1 in
    rw (p.1, p.2) (λ other. ends_failed (0 ∷ []) 0 _ c.in_err-opcodes.field-0.0 (end_fails c.args.head.version c.loop-done.invariant.so_far c.in_err-opcodes.field-0.0 c.loop-done-test.true (c.in_err-opcodes.ensures.value other)))

pub loop-done-init : goal.loop-done-init
loop-done-init c = record {
  so_far = ends_begin c.args.head.version c.args.head.whole c.args.head.agents c.args.own c.args.count c.min.result c.args.bytes.now c.in_ok-offsets.offsets.items c.in_ok-offsets.ensures.items;
  counted = c.in_ok-offsets.ensures.len ∙ ap (λ (n : ℕ). n + 1) c.min.ensures;
  taken = omega arith;
  long = omega arith;
}

pub loop-done-preserved : goal.loop-done-preserved
loop-done-preserved c =
    let skipped = c.in_ok-opcodes.ensures.value in
    let shorter = c.in_ok-opcodes.ensures.shorter in
    let few = c.in_ok-opcodes.ensures.few in
    let before = c.loop-done.invariant in
    let row = c.loop-done.offsets.items in
    let same : length row ≡ vec_len c.loop-done.offsets = search rules in
    let v = c.args.head.version in
    record {
      so_far = subst (λ (known : List ℕ). EndsGoOn v c.args.head.whole c.args.head.agents c.args.own c.args.count (c.loop-done.done + 1) c.in_ok-opcodes.after.now known (c.loop-done.end + c.in_ok-opcodes.opcodes) (with_ends (0 ∷ []) 0 (actions_at v c.args.count c.args.head.whole c.args.head.agents c.args.own c.args.bytes.now)))
          (one_filled row c.loop-done.done (c.loop-done.end + c.in_ok-opcodes.opcodes) (grind (arith, same, before.counted, before.taken, shorter, c.loop-done-test.true)))
          (end_goes_on v before.so_far skipped.0 c.in_ok-opcodes.after.now (c.loop-done.end + c.in_ok-opcodes.opcodes) c.loop-done-test.true skipped.1 skipped.2.1 (omega (arith, skipped.2.0)));
      counted = before.counted;
      taken = omega (arith, before.taken, shorter);
      long = omega (arith, few, before.long);
    }

pub index_mut-requires : goal.index_mut-requires
index_mut-requires c =
    let counted = c.loop-done.invariant.counted in
    let taken = c.loop-done.invariant.taken in
    let shorter = c.in_ok-opcodes.ensures.shorter in
    grind (arith, counted, taken, shorter, c.loop-done-test.true)

pub returns-clause-count : goal.returns-clause-count
returns-clause-count c =
    let counted = c.loop-done.invariant.counted in
    let taken = c.loop-done.invariant.taken in
    grind (arith, counted, taken, c.loop-done-test.false)

pub returns-clause-value : goal.returns-clause-value
returns-clause-value c =
    let counted = c.loop-done.invariant.counted in
    let taken = c.loop-done.invariant.taken in
    let same : length c.loop-done.offsets.items ≡ vec_len c.loop-done.offsets = search rules in
    let whole = take_all (c.loop-done.done + 1) c.loop-done.offsets.items (grind (arith, same, counted, taken, c.loop-done-test.false)) in
    let found = ends_found c.args.head.version (0 ∷ []) 0 _ (take (c.loop-done.done + 1) c.loop-done.offsets.items) c.loop-done.rest.now (ends_done c.args.head.version c.loop-done.invariant.so_far c.loop-done-test.false) in
    (found.0, found.1, (sym whole ∙ found.2, found.3))

pub overflow_add-end : goal.overflow_add-end
overflow_add-end c =
    let few = c.in_ok-opcodes.ensures.few in
    let so_long = c.loop-done.invariant.long in
    let most = c.requires.count in
    let more = c.loop-done-test.true in
    omega (arith, few, so_long, most, more)
