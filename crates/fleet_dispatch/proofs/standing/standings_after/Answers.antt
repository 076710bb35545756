use Rattle.fleet_dispatch.proofs.Cited.{◌∙◌, ap, arith, configuration_at, left_in}
use Rattle.fleet_dispatch.proofs.Stood.{replay_reached}
use Rattle.fleet_dispatch.proofs.standing.standings_after.Goals as goal

pub returns-in-Ok-clause-stand : goal.returns-in-Ok-clause-stand
returns-in-Ok-clause-stand g c =
    let p = g.P.ProgramView.program c.args.program.now in
    let led = c.in_ok-session.ensures in
    let stand = c.in-Ok.ensures ∙ ap (configuration_at p) c.done.ensures in
    record {
      past = left_in c.in_ok-session.session;
      replayed = led.replayed;
      standings = stand;
      reached = rw stand (replay_reached p c.args.log.now (left_in c.in_ok-session.session) led.replayed);
    }

pub standings_at-requires : goal.standings_at-requires
standings_at-requires g c =
    let leads = c.in_ok-session.ensures.ready.leads in
    record {
      counts = rw c.done.ensures (record { agents = leads.rows.done; within = λ i inside. (let told = leads.told i inside in omega (arith, told.from, told.within)) });
    }
