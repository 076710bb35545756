use Rattle.fleet_adg.proofs.Words.{◌≤◌, length, ap, sym, ◌∙◌, arith, Contains, take_all, slice_get_within, get_or_from_slice_get, awaits_of, rest_awaits}
use Rattle.fleet_adg.proofs.RestMade.{unmet_more, met_more}
use Rattle.fleet_adg.proofs.remaining.rest_awaits.Goals as goal
use Rattle.fleet_adg.proofs.remaining.rest_awaits.Goals.{in-Some+in_ok-push, in_default}

pub unmet-requires : goal.unmet-requires
unmet-requires g c =
    let p = g.P.ProgramView.program c.args.program.now in
    let awaits = awaits_of p c.args.action.agent c.args.action.number in
    let w = c.await_at-awaited.result in
    let at = c.await_at-awaited.ensures in
    let among : Contains awaits w = (c.loop-k.k, slice_get_within awaits c.loop-k.k w at, get_or_from_slice_get awaits c.loop-k.k w w at) in
    omega (arith, (c.requires.on_way.in_range c.args.action.agent c.args.action.number w among).agent, c.requires.on_way.all)

pub loop-k-preserved : goal.loop-k-preserved
loop-k-preserved g c =
    let st = c.args.standings.now in
    let awaits = awaits_of (g.P.ProgramView.program c.args.program.now) c.args.action.agent c.args.action.number in
    let w = c.await_at-awaited.result in
    let at = c.await_at-awaited.ensures in
    elim c.match-unmet.branch [
      | in-Some+in_ok-push v ↦
          let some = c.unmet.ensures.some v.in-Some.one v.in-Some.is in
          record { made = v.awaits-is ∙ (v.in_ok-push.ensures.ok ∙ cc (c.loop-k.invariant.made, some.0, unmet_more st awaits c.loop-k.k w at some.1)) }
      | in_default v ↦ record { made = v.awaits-is ∙ (c.loop-k.invariant.made ∙ sym (met_more st awaits c.loop-k.k w at (c.unmet.ensures.none v.in_default.is))) }
    ]

pub returns : goal.returns
returns g c =
    let awaits = awaits_of (g.P.ProgramView.program c.args.program.now) c.args.action.agent c.args.action.number in
    let all : length awaits ≤ c.loop-k.k = omega (arith, c.loop-k-test.false, c.loop-k.auto.k-end, c.await_count-k-end.ensures) in
    c.loop-k.invariant.made ∙ ap (rest_awaits c.args.standings.now) (take_all c.loop-k.k awaits all)
