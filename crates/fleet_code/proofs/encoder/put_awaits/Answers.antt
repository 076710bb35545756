use Rattle.fleet_code.proofs.Words.{◌∙◌, get_or, get_or_default, Await}
use Rattle.fleet_code.specs.Spelling.{await}
use Rattle.fleet_code.proofs.Written.{written_more, written_all}
use Rattle.fleet_code.proofs.encoder.put_awaits.Goals as goal

pub loop-one-preserved : goal.loop-one-preserved
loop-one-preserved c =
    let awaits = c.args.awaits.now in
    let none : Await = record { agent = 0; count = 0 } in
    let one : Await = get_or awaits c.loop-one.one-index none in
    c.in_ok-put_await.ensures ∙ written_more (await c.args.version) awaits c.loop-one.one-index one c.args.out.now.items c.loop-one.out.items c.loop-one-test.true (get_or_default awaits c.loop-one.one-index none one c.loop-one-test.true) c.loop-one.invariant

pub returns : goal.returns
returns c = written_all (await c.args.version) c.args.awaits.now c.loop-one.one-index c.args.out.now.items c.loop-one.out.items c.loop-one-test.false c.loop-one.invariant
