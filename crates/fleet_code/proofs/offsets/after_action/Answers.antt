use Rattle.fleet_code.proofs.Words.{◌++◌, ◌∷◌, [], sym, ◌∙◌, arith, refl, length, length-append, ℕ, List, Action, err_from_is_err_and}
use Rattle.fleet_code.proofs.ActionLoop.{action_begins, step_ends, other_opcode, await_goes_on, await_fails, action_lacks}
use Rattle.fleet_code.proofs.OffsetLoop.{no_step, action_length}
use Rattle.fleet_code.proofs.offsets.after_action.Goals as goal

pub returns-in-Some-clause-value : goal.returns-in-Some-clause-value
returns-in-Some-clause-value c =
    let found = c.in-Some.ensures.found in
    let x : Action × List ℕ = (found.0, c.in-Some.after.now) in
    (x, found.2, (sym found.1, refl, action_length c.args.head.version (length c.args.bytes.now) c.args.head.whole c.args.head.agents c.args.own 0 c.args.bytes.now x (λ i. omega (arith, c.type_inv.bytes i)) found.2))

pub loop-opcode-init : goal.loop-opcode-init
loop-opcode-init c = record {
  so_far = ([], refl, action_begins c.args.head.version c.args.head.whole c.args.head.agents c.args.own c.args.bytes.now);
  shorter = omega arith;
  many = omega arith;
  few = omega arith;
}

pub returns-in-Some-step_of-clause-value : goal.returns-in-Some-step_of-clause-value
returns-in-Some-step_of-clause-value c =
    let so_far = c.loop-opcode.invariant.so_far in
    let due = step_ends c.args.head.version c.in-Some-split_first.ensures.cases.0 so_far.2 c.in-Some-step_of.field-0 (sym c.step_of.ensures ∙ c.in-Some-step_of.is) in
    let found : Action × List ℕ = (record { step = c.in-Some-step_of.field-0; awaits = so_far.0 }, c.in-Some-split_first.after.now) in
    (found, due, (so_far.1, refl, action_length c.args.head.version (length c.args.bytes.now) c.args.head.whole c.args.head.agents c.args.own 0 c.args.bytes.now found (λ i. omega (arith, c.type_inv.bytes i)) due))

pub returns-in-Some-step_of-clause-few : goal.returns-in-Some-step_of-clause-few
returns-in-Some-step_of-clause-few c =
    let many = c.loop-opcode.invariant.many in
    let few = c.loop-opcode.invariant.few in
    let most = c.requires.few in
    omega (arith, many, few, most)

pub overflow_add-opcodes : goal.overflow_add-opcodes
overflow_add-opcodes c =
    let many = c.loop-opcode.invariant.many in
    let few = c.loop-opcode.invariant.few in
    let most = c.requires.few in
    omega (arith, many, few, most)

pub returns-then-is_unknown-clause-value : goal.returns-then-is_unknown-clause-value
returns-then-is_unknown-clause-value c =
    λ other. other_opcode c.args.head.version c.in-Some-split_first.ensures.cases.0 c.loop-opcode.invariant.so_far.2 (sym c.step_of.ensures ∙ no_step c.step_of.result c.in_default-step_of.not-Some) (λ e. c.if-is_unknown.true (omega (arith, e)))

pub returns-in_err-one-clause-value : goal.returns-in_err-one-clause-value
returns-in_err-one-clause-value c =
    let p = err_from_is_err_and c.from_residual.result c.from_residual.ensures.1 in
    rw (p.1, p.2)
    (λ other.
    await_fails c.args.head.version c.in-Some-split_first.ensures.cases.0 c.loop-opcode.invariant.so_far.2 c.in_err-one.field-0.0 (sym c.step_of.ensures ∙ no_step c.step_of.result c.in_default-step_of.not-Some) (omega (arith, c.if-is_unknown.false))
    (c.in_err-one.ensures.value other))

pub loop-opcode-preserved : goal.loop-opcode-preserved
loop-opcode-preserved c =
    let read = c.in_ok-one.ensures.long in
    let above = c.in_ok-one.ensures.least in
    let within = c.in_ok-one.ensures.agent in
    let one_less = c.in-Some-split_first.ensures.cases.1 in
    let shorter = c.loop-opcode.invariant.shorter in
    let many = c.loop-opcode.invariant.many in
    let so_far = c.loop-opcode.invariant.so_far in
    let no = sym c.step_of.ensures ∙ no_step c.step_of.result c.in_default-step_of.not-Some in
    record {
      so_far = (so_far.0 ++ c.in_ok-one.one ∷ [], omega (arith, so_far.1, length-append so_far.0 (c.in_ok-one.one ∷ [])), await_goes_on c.args.head.version c.in-Some-split_first.ensures.cases.0 so_far.2 c.in_ok-one.one c.in_ok-one.after.now no (omega (arith, c.if-is_unknown.false)) c.in_ok-one.ensures.value);
      shorter = omega (arith, read, one_less, shorter);
      many = omega (arith, above, many);
      few = omega (arith, within);
    }

pub returns-clause-value : goal.returns-clause-value
returns-clause-value c = λ other. action_lacks c.args.head.version c.loop-opcode.invariant.so_far.2 c.in_default-split_first.ensures.cases
