use Rattle.fleet_code.proofs.Words.{arith, take_rest}
use Rattle.fleet_code.proofs.ShortAction.{short_action, reads_one_await}
use Rattle.fleet_code.proofs.offsets.after_short_action.Goals.{then-opcode-ne-AWAIT-via-then-opcode-ne-AWAIT, then-opcode-ne-AWAIT-via-else-opcode-ne-AWAIT+then-step-gt-LAST_MOVE, else-agent-head-via-then-agent-head+then-agent-own+else-count-ne0, else-agent-head-via-then-agent-head+else-agent-own, else-agent-head-via-else-agent-head}
use Rattle.fleet_code.proofs.offsets.after_short_action.Goals as goal

pub returns-then-count-ne0-clause-found : goal.returns-then-count-ne0-clause-found
returns-then-count-ne0-clause-found c =
    rw (c.in-One.is, take_rest) (short_action c.args.head.whole c.args.head.agents c.args.own c.from_be_bytes-agent.result c.from_be_bytes-count.result c.args.bytes.now c.in-len6-up.len_at_least
    (omega (arith, c.if-opcode-ne-AWAIT.false)) c.from_be_bytes-agent.ensures c.from_be_bytes-count.ensures (omega (arith, c.if-step-gt-LAST_MOVE.false)) c.if-agent-head.true c.if-agent-own.true c.if-count-ne0.true)

pub returns-in_default-bytes-clause-none : goal.returns-in_default-bytes-clause-none
returns-in_default-bytes-clause-none c =
    λ _ x read two.
    let one = reads_one_await c.args.head.agents c.args.own (omega arith) c.args.head.whole c.args.bytes.now x (λ i. omega (arith, c.type_inv.bytes i)) read two in
    omega (arith, one.long, c.in_default-bytes.len_below)

pub returns-then-opcode-ne-AWAIT-clause-none : goal.returns-then-opcode-ne-AWAIT-clause-none
returns-then-opcode-ne-AWAIT-clause-none c =
    λ _ x read two.
    let one = reads_one_await c.args.head.agents c.args.own (omega arith) c.args.head.whole c.args.bytes.now x (λ i. omega (arith, c.type_inv.bytes i)) read two in
    elim c.then-opcode-ne-AWAIT.branch [
      | then-opcode-ne-AWAIT-via-then-opcode-ne-AWAIT w ↦ omega (arith, one.opcode, w.if-opcode-ne-AWAIT.true)
      | then-opcode-ne-AWAIT-via-else-opcode-ne-AWAIT+then-step-gt-LAST_MOVE w ↦ omega (arith, one.step, w.if-step-gt-LAST_MOVE.true)
    ]

pub returns-clause-none : goal.returns-clause-none
returns-clause-none c =
    λ _ x read two.
    let one = reads_one_await c.args.head.agents c.args.own (omega arith) c.args.head.whole c.args.bytes.now x (λ i. omega (arith, c.type_inv.bytes i)) read two in
    let agent = c.from_be_bytes-agent.ensures in
    elim c.else-agent-head.branch [
      | else-agent-head-via-then-agent-head+then-agent-own+else-count-ne0 w ↦ omega (arith, one.count, w.if-count-ne0.false, c.from_be_bytes-count.ensures)
      | else-agent-head-via-then-agent-head+else-agent-own w ↦ omega (arith, one.other, w.if-agent-own.false, agent)
      | else-agent-head-via-else-agent-head w ↦ omega (arith, one.agent, w.if-agent-head.false, agent)
    ]
