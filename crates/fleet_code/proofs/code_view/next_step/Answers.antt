use Rattle.fleet_code.proofs.Words.{◌+◌, arith, slice_get_within, awaits_of, few_awaits_of}
use Rattle.fleet_code.proofs.code_view.next_step.Goals as goal

pub instructions-preserved : goal.instructions-preserved
instructions-preserved g c =
    let here = rw c.in-Await.is at c.read-reading.ensures.instruction in
    let within = slice_get_within (awaits_of (g.P.ProgramView.program c.args.program.now) c.args.i (c.args.finished + 1)) c.instructions.k c.in-Await.field-0 here in
    record { within = omega (arith, within); at = rw c.in-Await.is at c.read-reading.ensures.after }

pub overflow_add-k : goal.overflow_add-k
overflow_add-k g c =
    let p = g.P.ProgramView.program c.args.program.now in
    let here = rw c.in-Await.is at c.read-reading.ensures.instruction in
    omega (arith, few_awaits_of p c.args.i (c.args.finished + 1) c.requires.agent c.agents-agents.ensures.well_formed, slice_get_within (awaits_of p c.args.i (c.args.finished + 1)) c.instructions.k c.in-Await.field-0 here)

pub returns-in-Step-clause-step : goal.returns-in-Step-clause-step
returns-in-Step-clause-step g c =
    let said = rw c.in-Step.is at c.read-reading.ensures.instruction in
    said.1

pub returns-in-Step-clause-after : goal.returns-in-Step-clause-after
returns-in-Step-clause-after g c = rw c.in-Step.is at c.read-reading.ensures.after
