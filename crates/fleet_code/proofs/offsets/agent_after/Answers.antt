use Rattle.fleet_code.proofs.Words.{◌≡◌, ◌+◌, ◌-◌, ℕ, List, length, arith, refl, err_from_is_err_and, AgentProgram, head_len}
use Rattle.fleet_code.proofs.Heads.{agent_head_fails, actions_fail, agent_is}
use Rattle.fleet_code.proofs.OffsetLoop.{agent_length}
use Rattle.fleet_code.proofs.offsets.agent_after.Goals as goal

pub returns-in_err-count-clause-value : goal.returns-in_err-count-clause-value
returns-in_err-count-clause-value c =
    let p = err_from_is_err_and c.from_residual.result c.from_residual.ensures.1 in
    rw (p.1, p.2) (λ other. agent_head_fails c.args.head.version c.args.head.whole c.args.head.agents c.args.own c.args.total c.args.bytes.now c.in_err-count.field-0.0 (c.in_err-count.ensures.value other))

pub returns-in_err-offsets-clause-value : goal.returns-in_err-offsets-clause-value
returns-in_err-offsets-clause-value c =
    let p = err_from_is_err_and c.from_residual-in_err-offsets.result c.from_residual-in_err-offsets.ensures.1 in
    rw (p.1, p.2) (λ other. actions_fail c.args.head.version c.args.head.whole c.args.head.agents c.args.own c.args.total c.args.bytes.now _ c.in_ok-count.ensures.value c.in_err-offsets.field-0.0 (c.in_err-offsets.ensures.value other))

pub returns-clause-value : goal.returns-clause-value
returns-clause-value c =
    let count = c.in_ok-count in
    let found = c.in_ok-offsets.ensures.value in
    let x : AgentProgram × List ℕ = (record { start = count.field-0-1; goal = count.field-0-2; actions = found.0.0 }, found.0.1) in
    let read = agent_is c.args.head.version c.args.head.whole c.args.head.agents c.args.own c.args.total c.args.bytes.now _ count.ensures.value found.0 found.1 in
    let long = agent_length c.args.head.version c.args.head.whole c.args.head.agents c.args.own c.args.total c.args.bytes.now x (λ i. omega (arith, c.type_inv.bytes i)) read in
    let shorter = c.requires.whole in
    let ten = count.ensures.long in
    let at : c.args.head.whole - length count.rest.now ≡ c.args.head.whole - length c.args.bytes.now + head_len c.args.head.version = omega (arith, shorter, ten) in
    (x, read, (rw (at, found.2.0) refl, found.2.1, rw found.2.1 long))
