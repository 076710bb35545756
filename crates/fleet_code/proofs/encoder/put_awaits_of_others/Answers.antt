use Rattle.fleet_code.proofs.Words.{◌≤◌, ◌==◌, ◌++◌, ◌∙◌, not, filter, get_or, ap, sym, ne_eqb, eq-eqb, get_or_default, take_all, append-nil, flat_map, Await, most_count}
use Rattle.fleet_code.specs.Spelling.{await}
use Rattle.fleet_code.proofs.Written.{passing_holds, passed_more}
use Rattle.fleet_code.proofs.encoder.put_awaits_of_others.Goals as goal
use Rattle.fleet_code.proofs.encoder.put_awaits_of_others.Goals.{then-one-own+in_ok-put_await, else-one-own}

pub put_await-requires : goal.put_await-requires
put_await-requires c =
    let awaits = c.args.awaits.now in
    let k = c.loop-one.one-index in
    let none : Await = record { agent = 0; count = 0 } in
    let one : Await = get_or awaits k none in
    passing_holds (λ (w : Await). w.count ≤ most_count c.args.version) (λ (w : Await). not (w.agent == c.args.own)) awaits k one c.requires c.loop-one-test.true
    (get_or_default awaits k none one c.loop-one-test.true) (ap not (ne_eqb one.agent c.args.own c.if-one-own.true))

pub loop-one-preserved : goal.loop-one-preserved
loop-one-preserved c =
    let none : Await = record { agent = 0; count = 0 } in
    let one : Await = get_or c.args.awaits.now c.loop-one.one-index none in
    let more = passed_more (await c.args.version) (λ (w : Await). not (w.agent == c.args.own)) c.args.out.now.items c.loop-one.out.items c.if-one-own.out.items c.args.awaits.now c.loop-one.one-index none c.loop-one-test.true c.loop-one.invariant in
    elim c.if-one-own.branch [
      | then-one-own+in_ok-put_await w ↦ more (rw (w.out-is, ap not (ne_eqb one.agent c.args.own w.if-one-own.true)) w.in_ok-put_await.ensures)
      | else-one-own w ↦ more (rw (w.out-is, ap not (eq-eqb one.agent c.args.own w.if-one-own.false)) (sym (append-nil c.loop-one.out.items)))
    ]

pub returns : goal.returns
returns c =
    let front = c.args.out.now.items in
    c.loop-one.invariant ∙ ap (λ awaits. front ++ flat_map (await c.args.version) (filter (λ (w : Await). not (w.agent == c.args.own)) awaits)) (take_all c.loop-one.one-index c.args.awaits.now c.loop-one-test.false)
