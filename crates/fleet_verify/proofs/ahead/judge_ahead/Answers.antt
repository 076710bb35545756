use Rattle.fleet_verify.proofs.Words.{subst, sym, arith, HasLevels}
use Rattle.fleet_verify.proofs.Beginning.{done_counted, done_range, done_finish, done_visits, done_apart, done_levels, ahead_accepted}
use Rattle.fleet_verify.proofs.Asked.{known_none}
use Rattle.fleet_verify.proofs.ahead.judge_ahead.Goals as goal

pub unless_chained-requires : goal.unless_chained-requires
unless_chained-requires g c =
    let p = g.P.ProgramView.program c.args.program.now in
    let n = c.in-Some.ensures.done.0 in
    let all = c.in-Some.ensures.done.1 in
    let done = c.in-Some.ensures.done.2 in
    let wf = c.agents-agents.ensures.well_formed in
    record {
      levels = record {
        range = done_range c.args.grid.now c.args.instance.now p c.args.ahead n c.in-Some.chain wf c.requires.starts c.requires.ahead done all;
        finish = done_finish c.args.grid.now c.args.instance.now p c.args.ahead n c.in-Some.chain wf c.requires.starts c.requires.ahead done all;
        rows = c.requires.ahead.rows;
        whole = λ i l. done.whole i (omega (arith, l, all));
        levels = done_counted c.args.grid.now c.args.instance.now p c.args.ahead n c.in-Some.chain wf c.requires.starts c.requires.ahead done all;
      };
      visits = done_visits c.args.grid.now c.args.instance.now p c.args.ahead n c.in-Some.chain wf c.requires.starts c.requires.ahead done all;
      apart = done_apart c.args.grid.now c.args.instance.now p c.args.ahead n c.in-Some.chain wf c.requires.starts c.requires.ahead done all;
    }

pub are_near-requires : goal.are_near-requires
are_near-requires g c =
    let p = g.P.ProgramView.program c.args.program.now in
    let n = c.in-Some.ensures.done.0 in
    let all = c.in-Some.ensures.done.1 in
    let done = c.in-Some.ensures.done.2 in
    let wf = c.agents-agents.ensures.well_formed in
    record {
      range = done_range c.args.grid.now c.args.instance.now p c.args.ahead n c.in-Some.chain wf c.requires.starts c.requires.ahead done all;
      visits = done_visits c.args.grid.now c.args.instance.now p c.args.ahead n c.in-Some.chain wf c.requires.starts c.requires.ahead done all;
    }

pub returns-then-are_near-clause-outlook : goal.returns-then-are_near-clause-outlook
returns-then-are_near-clause-outlook g c =
    let p = g.P.ProgramView.program c.args.program.now in
    let n = c.in-Some.ensures.done.0 in
    let all = c.in-Some.ensures.done.1 in
    let done = c.in-Some.ensures.done.2 in
    let wf = c.agents-agents.ensures.well_formed in (
      ahead_accepted c.args.grid.now c.args.instance.now p c.args.ahead n c.in-Some.chain wf c.requires.starts c.requires.ahead done all (c.are_near.ensures c.if-are_near.true),
      subst (HasLevels p) (sym c.of.ensures) (done_levels c.args.grid.now c.args.instance.now p c.args.ahead n c.in-Some.chain wf c.requires.starts c.requires.ahead done all),
    )

pub returns-in-None-clause-outlook : goal.returns-in-None-clause-outlook
returns-in-None-clause-outlook g c =
    let p = g.P.ProgramView.program c.args.program.now in
    let n = c.in-Some.ensures.done.0 in
    let all = c.in-Some.ensures.done.1 in
    let done = c.in-Some.ensures.done.2 in (
      ahead_accepted c.args.grid.now c.args.instance.now p c.args.ahead n c.in-Some.chain c.agents-agents.ensures.well_formed c.requires.starts c.requires.ahead done all
          (rw c.in-None.is at c.in_ok-unless_chained.ensures.chained),
      tt,
    )

pub returns-in_default-clause-outlook : goal.returns-in_default-clause-outlook
returns-in_default-clause-outlook g c = known_none (g.P.ProgramView.program c.args.program.now) c.none.result c.none.ensures.questions c.none.ensures.flags

pub returns-in_default-clause-found : goal.returns-in_default-clause-found
returns-in_default-clause-found g c = λ finished _. c.in_default.ensures.none finished

pub returns-in-Some-2-clause-outlook : goal.returns-in-Some-2-clause-outlook
returns-in-Some-2-clause-outlook g c = rw c.in-Some-2.is at c.in_ok-unless_chained.ensures.known

pub returns-in-Some-2-clause-found : goal.returns-in-Some-2-clause-found
returns-in-Some-2-clause-found g c = λ _ chained. (rw c.in-Some-2.is at c.in_ok-unless_chained.ensures.unchained) chained
