use Rattle.fleet_verify.proofs.Words.{◌≡◌, ◌+◌, [], ℕ, List, length, get_or, set, refl, sym, ap, ◌∙◌, subst, arith, length-set, Cell, is_passable, IsAheadBy, AddsLevel, climbed_in, stand, kept_at, numbered_cell, climbed}
use Rattle.fleet_verify.proofs.NextLevel.{ahead_more, next_level_some}
use Rattle.fleet_verify.proofs.Climbing.{runner_there, runner_count, runner_rows, raised_last}
use Rattle.fleet_verify.proofs.ahead.finish_next.Goals as goal

pub raise-requires-clause-agent : goal.raise-requires-clause-agent
raise-requires-clause-agent g c =
    let there = runner_there c.requires.runner in
    let same = ap (λ (rs : List (List ℕ)). length rs) c.in_ok-number.ensures.comes.rows in
    omega (arith, there, same)

pub raise-requires-clause-some : goal.raise-requires-clause-some
raise-requires-clause-some g c = next_level_some c.requires.needs.level

pub returns-clause-gone : goal.returns-clause-gone
returns-clause-gone g c =
    let p = g.P.ProgramView.program c.args.program.now in
    let r = c.args.runner in
    let i = c.args.agent in
    let old = c.args.ahead.now in
    let come = c.in_ok-number.ensures.comes in
    let raised = c.in_ok-raise.ensures in
    let there = runner_there c.requires.runner in
    let many = ap (λ (rs : List (List ℕ)). length rs) come.rows in
    let adds = subst (λ (rs : List (List ℕ)). AddsLevel (climbed_in rs i r.finished) (climbed_in c.raise.new.rows.items i (r.finished + 1)) i c.args.needs.level) come.rows raised.raised in
    let kept = length-set c.raise.new.rows.items i (climbed (get_or c.raise.new.rows.items i []) (r.finished + 1)) in
    let before = runner_rows c.requires.runner in
    let long : length (climbed_in c.raise.new.rows.items i (r.finished + 1)) ≡ length p = omega (arith, kept, raised.rows, before, many) in
    record {
      runner = record {
        agent = c.requires.runner.agent;
        begun = raised.begun;
        level = raised_last (climbed_in old.rows.items i r.finished) c.raise.new.rows.items i (r.finished + 1) c.args.needs.level (omega (arith, there, raised.rows, many)) adds;
        at = c.requires.needs.after;
        ahead = subst (λ (cs : List Cell). IsAheadBy (is_passable c.args.grid.now) p (climbed_in c.raise.new.rows.items i (r.finished + 1)) (set cs i (numbered_cell c.in_ok-number.number)) (kept_at c.arrive.new.ahead.last) c.arrive.new.ahead.pairs.items) (sym come.cells)
            (ahead_more (is_passable c.args.grid.now) p (climbed_in old.rows.items i r.finished) (climbed_in c.raise.new.rows.items i (r.finished + 1)) old.cells.items (kept_at old.last) (kept_at c.arrive.new.ahead.last)
            old.pairs.items c.arrive.new.ahead.pairs.items i (r.finished + 1) c.args.needs.level (stand r) (numbered_cell c.in_ok-number.number) c.requires.runner.ahead c.requires.runner.agent
            (omega (arith, runner_count c.requires.runner)) (omega (arith, c.requires.left)) c.requires.needs.level long adds come.added come.here come.ground);
      };
      finished = refl;
      level = refl;
      others = λ j ne. raised.others j ne ∙ ap (λ (rs : List (List ℕ)). get_or rs j []) come.rows;
    }

pub overflow_add-finished : goal.overflow_add-finished
overflow_add-finished g c = omega (arith, c.requires.left, c.agents-agents.ensures.well_formed.moves_each c.args.agent)

pub raise-requires-clause-few : goal.raise-requires-clause-few
raise-requires-clause-few g c = omega (arith, c.requires.left, c.agents-agents.ensures.well_formed.moves_each c.args.agent)
