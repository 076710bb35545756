use Rattle.fleet_code.proofs.Words.{arith, few_awaits_of}
use Rattle.fleet_code.proofs.InPlace.{own_awaits}
use Rattle.fleet_code.proofs.code_view.CodeViewProgramView.await_count.Goals as goal

pub overflow_sub-result : goal.overflow_sub-result
overflow_sub-result c =
    let own = own_awaits c.args.self.now.program c.args.i c.args.p c.requires.first in
    omega (arith, own, c.awaits_up_to.ensures.value, c.awaits_up_to-2.ensures.value)

pub overflow_cast-result : goal.overflow_cast-result
overflow_cast-result c =
    let own = own_awaits c.args.self.now.program c.args.i c.args.p c.requires.first in
    let few = few_awaits_of c.args.self.now.program c.args.i c.args.p c.requires.agent c.awaits_up_to.ensures.well_formed in
    omega (arith, own, few, c.awaits_up_to.ensures.value, c.awaits_up_to-2.ensures.value)

pub returns : goal.returns
returns c =
    let own = own_awaits c.args.self.now.program c.args.i c.args.p c.requires.first in
    omega (arith, own, c.awaits_up_to.ensures.value, c.awaits_up_to-2.ensures.value)
