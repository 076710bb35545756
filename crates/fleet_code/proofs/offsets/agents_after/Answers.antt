use Rattle.fleet_code.proofs.Words.{◌++◌, ◌∷◌, [], ◌≡◌, length, ap, arith, rules, err_from_is_err_and, PartOffsets}
use Rattle.fleet_code.proofs.OffsetLoop.{parts_found, parts_failed, part_goes_on, part_fails, parts_done, ends_length}
use Rattle.fleet_code.proofs.offsets.agents_after.Goals as goal

pub returns-in_err-part-clause-value : goal.returns-in_err-part-clause-value
returns-in_err-part-clause-value c =
    let p = err_from_is_err_and c.from_residual-in_err-part.result c.from_residual-in_err-part.ensures.1 in
    rw (p.1, p.2) (λ other. parts_failed c.args.head.version _ _ c.in_err-part.field-0.0 (part_fails c.args.head.version c.loop-own.invariant.so_far c.in_err-part.field-0.0 c.loop-own-test.true (c.in_err-part.ensures.value other)))

pub loop-own-preserved : goal.loop-own-preserved
loop-own-preserved c =
    let found = c.in_ok-part.ensures.value in
    let shorter = c.loop-own.invariant.shorter in
    let whole = c.requires.whole in
    let long = found.2.2 in
    let less = c.in_ok-part.ensures.total in
    let all = ap (λ (p : PartOffsets). length p.offsets) found.2.0 in
    let many = ends_length 0 found.0.0.actions in
    let counted = c.moves-total.ensures in
    let items : c.push.new.self.items ≡ c.loop-own.parts.items ++ c.in_ok-part.part ∷ [] = search rules in
    record {
      so_far = rw items
          (part_goes_on c.args.head.version c.loop-own.invariant.so_far found.0 c.in_ok-part.after.now _ _ _ c.loop-own-test.true found.1 found.2.1 found.2.0 (omega (arith, all, many, counted)) (omega (arith, whole, shorter, long)));
      few = omega (arith, less, counted);
      shorter = omega (arith, shorter, long);
    }

pub returns-clause-value : goal.returns-clause-value
returns-clause-value c =
    let found = parts_found c.args.head.version _ _ c.loop-own.parts.items c.loop-own.rest.now (parts_done c.args.head.version c.loop-own.invariant.so_far c.loop-own-test.false) in
    (found.0, found.1, (found.2, found.3))
