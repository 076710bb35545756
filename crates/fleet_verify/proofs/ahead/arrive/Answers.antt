use Rattle.fleet_verify.proofs.Words.{ℕ, ◌+◌, ◌∙◌, refl, sym, ap, subst, arith, IsTrue, Cell, is_move, place_of, stepped, is_passable, Visit, err_from_is_err_and, PlacedVisit, count_in, climbed_in, stand, kept_at, numbered_cell}
use Rattle.fleet_verify.proofs.Begin.{begun_kept, begun_earlier}
use Rattle.fleet_verify.proofs.NextLevel.{enters_by, leads_on, visit_by}
use Rattle.fleet_verify.proofs.Climbing.{stop_on, runner_count, runner_place, runner_ground, arrival_by, arrival_here, within_numbers}
use Rattle.fleet_verify.proofs.Ordered.{added_visit, added_stay}
use Rattle.fleet_verify.proofs.ahead.arrive.Goals as goal

pub next_number-next-requires-clause-column : goal.next_number-next-requires-clause-column
next_number-next-requires-clause-column g c =
    (within_numbers c.args.grid.now c.width-width.ensures.sizes (stand c.args.runner) (runner_ground c.requires.runner)).0

pub next_number-next-requires-clause-row : goal.next_number-next-requires-clause-row
next_number-next-requires-clause-row g c =
    (within_numbers c.args.grid.now c.width-width.ensures.sizes (stand c.args.runner) (runner_ground c.requires.runner)).1

pub enter-requires : goal.enter-requires
enter-requires g c =
    let p = g.P.ProgramView.program c.args.program.now in
    let v : Visit = record { agent = c.args.agent; position = c.args.runner.finished + 1 } in
    let begun = λ (j : ℕ). count_in (climbed_in c.args.ahead.now.rows.items c.args.agent c.args.runner.finished) j + 1 in
    let count = runner_count c.requires.runner in
    record {
      entry = record {
        visit = visit_by p v c.args.needs c.requires.runner.agent (arrival_by c.requires.runner c.requires.left c.requires.needs) (ap is_move c.in-Go.is);
        latest = c.requires.needs.latest;
      };
      before = record {
        ground = begun_kept (is_passable c.args.grid.now) p begun (kept_at c.args.ahead.now.last) c.args.ahead.now.pairs.items c.requires.runner.ahead.begun;
        earlier = begun_earlier (is_passable c.args.grid.now) p begun (kept_at c.args.ahead.now.last) c.args.ahead.now.pairs.items c.requires.runner.ahead.begun v (omega (arith, count));
      };
    }

pub returns-in_ok-enter-in-Go-clause-comes : goal.returns-in_ok-enter-in-Go-clause-comes
returns-in_ok-enter-in-Go-clause-comes g c =
    let p = g.P.ProgramView.program c.args.program.now in
    let s : PlacedVisit = record { visit = record { agent = c.args.agent; position = c.args.runner.finished + 1 }; cell = c.numbered_cell-cell.result } in
    let made = c.in_ok-enter-in-Go.ensures in
    let ground = subst (λ (q : Cell). IsTrue (is_passable c.args.grid.now (place_of q))) c.numbered_cell-cell.ensures made.ground in
    let within = within_numbers c.args.grid.now c.width-width.ensures.sizes (numbered_cell c.next_number-next.result) ground in
    let here = arrival_here c.requires.runner c.requires.needs (numbered_cell c.next_number-next.result) (c.next_number-next.ensures.place within.0 within.1) in
    record {
      rows = refl;
      cells = refl;
      here = here;
      ground = ground;
      added = added_visit p s (kept_at c.args.ahead.now.last) (kept_at c.enter.new.last) c.args.ahead.now.pairs.items c.enter.new.pairs.items (record { cell = made.cell; here = ap place_of c.numbered_cell-cell.ensures ∙ here })
          (enters_by p s.visit c.args.needs (arrival_by c.requires.runner c.requires.left c.requires.needs) ∙ ap is_move c.in-Go.is) made.kept;
    }

pub returns-in-Dwell-clause-comes : goal.returns-in-Dwell-clause-comes
returns-in-Dwell-clause-comes g c =
    let p = g.P.ProgramView.program c.args.program.now in
    let v : Visit = record { agent = c.args.agent; position = c.args.runner.finished + 1 } in
    record {
      rows = refl;
      cells = refl;
      here = arrival_here c.requires.runner c.requires.needs (stand c.args.runner) (ap (stepped (place_of (stand c.args.runner))) (sym c.in-Dwell.is));
      ground = runner_ground c.requires.runner;
      added = added_stay p v (kept_at c.args.ahead.now.last) c.args.ahead.now.pairs.items (enters_by p v c.args.needs (arrival_by c.requires.runner c.requires.left c.requires.needs) ∙ ap is_move c.in-Dwell.is);
    }

pub returns-in_err-enter-in-Go-clause-stop : goal.returns-in_err-enter-in-Go-clause-stop
returns-in_err-enter-in-Go-clause-stop g c =
    let p = g.P.ProgramView.program c.args.program.now in
    let r = c.args.runner in
    let step = c.args.needs.step in
    let there = leads_on p c.args.agent r.finished step (place_of (stand r)) c.requires.needs.step (runner_place c.requires.runner) in
    let q = err_from_is_err_and c.from_residual.result c.from_residual.ensures.1 in
    rw (q.1, q.2) (stop_on c.args.grid.now p c.args.agent (r.finished + 1) (stepped (place_of (stand r)) step) c.numbered_cell-cell.result c.requires.runner.agent (omega (arith, c.requires.left))
    there (λ d e. c.numbered_cell-cell.ensures ∙ c.next_number-next.ensures.cell d e) c.in_err-enter-in-Go.field-0.0 c.in_err-enter-in-Go.ensures.stop)
