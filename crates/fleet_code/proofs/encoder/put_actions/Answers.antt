use Rattle.fleet_code.proofs.Words.{◌<◌, ◌∙◌, length, sym, subst, arith, All-get_or, get_or_from_slice_get, Action, IsSpellable}
use Rattle.fleet_model.proofs.ActionRows.{action_is}
use Rattle.fleet_code.specs.Spelling.{action}
use Rattle.fleet_code.proofs.Written.{written_more, written_all}
use Rattle.fleet_code.proofs.encoder.put_actions.Goals as goal

pub put_action-requires : goal.put_action-requires
put_action-requires c =
    let actions = c.args.actions.now in
    let k = c.loop-k.k in
    let this : Action = record { step = c.step.result; awaits = c.awaits.result.now } in
    let within : k < length actions = omega (arith, c.loop-k-test.true, c.len-k-end.ensures) in
    let here = action_is actions k c.step.result c.awaits.result.now within c.step.ensures c.awaits.ensures in
    subst (IsSpellable c.args.version) (get_or_from_slice_get actions k this this here) (All-get_or (IsSpellable c.args.version) actions k this within c.requires)

pub loop-k-preserved : goal.loop-k-preserved
loop-k-preserved c =
    let actions = c.args.actions.now in
    let k = c.loop-k.k in
    let this : Action = record { step = c.step.result; awaits = c.awaits.result.now } in
    let within : k < length actions = omega (arith, c.loop-k-test.true, c.len-k-end.ensures) in
    let here = action_is actions k c.step.result c.awaits.result.now within c.step.ensures c.awaits.ensures in
    c.in_ok-put_action.ensures ∙ written_more (action c.args.version) actions k this c.args.out.now.items c.loop-k.out.items within (sym (get_or_from_slice_get actions k this this here)) c.loop-k.invariant

pub returns : goal.returns
returns c = written_all (action c.args.version) c.args.actions.now c.loop-k.k c.args.out.now.items c.loop-k.out.items (omega (arith, c.loop-k-test.false, c.len-k-end.ensures)) c.loop-k.invariant
