use Rattle.fleet_verify.proofs.Words.{◌≡◌, ◌<◌, ℕ, List, length, arith, subst, sym, ◌∙◌, All-append, Visit, is_passable, flag_of, StandsRight, AreAdded, begun_in, moved_to, AreOnGround}
use Rattle.fleet_verify.proofs.UnderWay.{goes_on, stops, arrived, tick_reaches, ends_by, IsUnderWay}
use Rattle.fleet_verify.proofs.unheld_run.run_on.Goals as goal

pub returns-then-tick-eq0 : goal.returns-then-tick-eq0
returns-then-tick-eq0 g c =
    let p = g.P.ProgramView.program c.args.program.now in
    let made = c.tick-tick.ensures in
    record {
      ended = stops p (flag_of c.args.nobody.now) c.loop-ticks.machine c.loop-ticks.ticks c.loop-ticks.invariant.under_way (λ i l. c.requires.nobody i)
          c.tick-tick.new.self made.runs made.after (sym made.moved ∙ c.if-tick-eq0.true);
      added = c.loop-ticks.invariant.added;
      on_ground = c.loop-ticks.invariant.on_ground;
    }

pub add_moved-requires-clause-reached : goal.add_moved-requires-clause-reached
add_moved-requires-clause-reached g c =
    let p = g.P.ProgramView.program c.args.program.now in
    let made = c.tick-tick.ensures in
    tick_reaches p (flag_of c.args.nobody.now) c.loop-ticks.machine c.loop-ticks.ticks c.loop-ticks.invariant.under_way (λ i l. c.requires.nobody i)
    c.tick-tick.new.self made.runs made.after

pub loop-ticks-preserved : goal.loop-ticks-preserved
loop-ticks-preserved g c =
    let p = g.P.ProgramView.program c.args.program.now in
    let held = flag_of c.args.nobody.now in
    let before = c.loop-ticks.invariant in
    let nobody = λ (i : ℕ) (l : i < length p). c.requires.nobody i in
    let made = c.tick-tick.ensures in
    let come = c.in_ok-add_moved.ensures in
    let to = moved_to c.tick-tick.new.self (length p) in
    let more = arrived p held c.loop-ticks.machine c.loop-ticks.ticks before.under_way nobody c.tick-tick.new.self made.runs made.after made.moving in
    let Stands = λ (v : Visit). StandsRight (is_passable c.args.grid.now) p v.agent v.position in
    record {
      under_way = goes_on p held c.loop-ticks.machine c.loop-ticks.ticks before.under_way nobody c.tick-tick.new.self made.runs made.after (λ none. c.if-tick-eq0.false (made.moved ∙ none));
      added = subst (λ (vs : List Visit). AreAdded p vs c.add_moved.new.visits) more (come.added (begun_in p c.loop-ticks.ticks) before.added);
      on_ground = subst (AreOnGround (is_passable c.args.grid.now) p) more (All-append Stands (begun_in p c.loop-ticks.ticks) to before.on_ground come.on_ground);
    }

pub returns : goal.returns
returns g c =
    let p = g.P.ProgramView.program c.args.program.now in
    let enough : c.loop-ticks.ticks ≡ c.total_moves-most.result = omega arith in
    record {
      ended = ends_by p c.loop-ticks.machine c.total_moves-most.result (subst (IsUnderWay p c.loop-ticks.machine) enough c.loop-ticks.invariant.under_way) (omega (arith, c.total_moves-most.ensures));
      added = subst (λ (t : ℕ). AreAdded p (begun_in p t) c.loop-ticks.visits) enough c.loop-ticks.invariant.added;
      on_ground = subst (λ (t : ℕ). AreOnGround (is_passable c.args.grid.now) p (begun_in p t)) enough c.loop-ticks.invariant.on_ground;
    }
