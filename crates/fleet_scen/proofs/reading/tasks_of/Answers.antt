use Rattle.std.proofs.Common.{◌≡◌, ◌<◌, ◌≤◌, ◌∙◌, length, sym, ap, arith, true, false}
use Rattle.std.proofs.lemmas.Result.{err_from_is_err_and}
use Rattle.std.specs.HashSet.{contains}
use Rattle.fleet_model.specs.Geometry.{is_same_cell}
use Rattle.fleet_scen.specs.ScenReading.{lacks}
use Rattle.fleet_scen.proofs.ScenLoop.{stops, ends, skips, too_many, fails, shares_start, shares_goal, goes_on, holds_more, was_in, was_new}
use Rattle.fleet_scen.proofs.reading.tasks_of.Goals as goal
use Rattle.fleet_model.specs.declared.limits.TheConstants.{MAX_AGENTS}

pub returns-in_default : goal.returns-in_default
returns-in_default c =
    let total = ends c.args.grid.now c.args.asked c.loop-lines.number c.loop-lines.tasks.items c.loop-lines.lines _ c.loop-lines.invariant.so_far c.in_default.ensures.0 in
    rw total c.enough_tasks.ensures

pub loop-lines-preserved-then-not-is_filled : goal.loop-lines-preserved-then-not-is_filled
loop-lines-preserved-then-not-is_filled c =
    let l = c.loop-lines in
    let count_is : c.len.result ≡ length l.tasks.items = omega (arith, c.len.ensures) in
    let more : lacks c.args.asked (length l.tasks.items) ≡ true = rw count_is at (sym c.lacks.ensures ∙ c.loop-lines-test.true) in
    let count = l.invariant.count in
    let next = c.in-Some.ensures in
    record {
      so_far = skips c.args.grid.now c.args.asked l.number l.tasks.items l.lines _ l.invariant.so_far c.in-Some.line.now c.next_line.new.self more next (sym c.is_filled.ensures ∙ c.if-not-is_filled.true);
      count = omega (arith, count, ap length next);
      starts = l.invariant.starts;
      goals = l.invariant.goals;
    }

pub returns-then-is_full : goal.returns-then-is_full
returns-then-is_full c =
    let l = c.loop-lines in
    let count_is : c.len.result ≡ length l.tasks.items = omega (arith, c.len.ensures) in
    let more : lacks c.args.asked (length l.tasks.items) ≡ true = rw count_is at (sym c.lacks.ensures ∙ c.loop-lines-test.true) in
    let many : MAX_AGENTS ≤ length l.tasks.items = omega (arith, c.len-is_full.ensures, c.if-is_full.true) in
    λ other. too_many c.args.grid.now c.args.asked l.number l.tasks.items l.lines _ l.invariant.so_far c.in-Some.line.now c.next_line.new.self more c.in-Some.ensures (sym c.is_filled.ensures ∙ c.if-not-is_filled.false) many

pub returns-in_err-task : goal.returns-in_err-task
returns-in_err-task c =
    let l = c.loop-lines in
    let count_is : c.len.result ≡ length l.tasks.items = omega (arith, c.len.ensures) in
    let more : lacks c.args.asked (length l.tasks.items) ≡ true = rw count_is at (sym c.lacks.ensures ∙ c.loop-lines-test.true) in
    let few : length l.tasks.items < MAX_AGENTS = omega (arith, c.len-is_full.ensures, c.if-is_full.false) in
    let p = err_from_is_err_and c.from_residual-in_err-task.result c.from_residual-in_err-task.ensures.1 in
    rw (p.1, p.2) (λ other. fails c.args.grid.now c.args.asked l.number l.tasks.items l.lines _ l.invariant.so_far c.in-Some.line.now c.next_line.new.self more c.in-Some.ensures (sym c.is_filled.ensures ∙ c.if-not-is_filled.false) few c.in_err-task.field-0.0 (sym c.in_err-task.ensures))

pub returns-then-not-branch : goal.returns-then-not-branch
returns-then-not-branch c =
    let l = c.loop-lines in
    let count_is : c.len.result ≡ length l.tasks.items = omega (arith, c.len.ensures) in
    let more : lacks c.args.asked (length l.tasks.items) ≡ true = rw count_is at (sym c.lacks.ensures ∙ c.loop-lines-test.true) in
    let few : length l.tasks.items < MAX_AGENTS = omega (arith, c.len-is_full.ensures, c.if-is_full.false) in
    let t = c.in_ok-task.task in
    let shared = sym (l.invariant.starts t.start) ∙ was_in c.in_ok-insert.field-0 (contains is_same_cell l.starts t.start) c.in_ok-insert.ensures.added c.if-not-branch.true in
    λ other. shares_start c.args.grid.now c.args.asked l.number l.tasks.items l.lines _ l.invariant.so_far c.in-Some.line.now c.next_line.new.self more c.in-Some.ensures (sym c.is_filled.ensures ∙ c.if-not-is_filled.false) few t (sym c.in_ok-task.ensures) shared

pub returns-then-not-branch-2 : goal.returns-then-not-branch-2
returns-then-not-branch-2 c =
    let l = c.loop-lines in
    let count_is : c.len.result ≡ length l.tasks.items = omega (arith, c.len.ensures) in
    let more : lacks c.args.asked (length l.tasks.items) ≡ true = rw count_is at (sym c.lacks.ensures ∙ c.loop-lines-test.true) in
    let few : length l.tasks.items < MAX_AGENTS = omega (arith, c.len-is_full.ensures, c.if-is_full.false) in
    let t = c.in_ok-task.task in
    let new = sym (l.invariant.starts t.start) ∙ was_new c.in_ok-insert.field-0 (contains is_same_cell l.starts t.start) c.in_ok-insert.ensures.added c.if-not-branch.false in
    let shared = sym (l.invariant.goals t.goal) ∙ was_in c.in_ok-insert-2.field-0 (contains is_same_cell l.goals t.goal) c.in_ok-insert-2.ensures.added c.if-not-branch-2.true in
    λ other. shares_goal c.args.grid.now c.args.asked l.number l.tasks.items l.lines _ l.invariant.so_far c.in-Some.line.now c.next_line.new.self more c.in-Some.ensures (sym c.is_filled.ensures ∙ c.if-not-is_filled.false) few t (sym c.in_ok-task.ensures) new shared

pub loop-lines-preserved : goal.loop-lines-preserved
loop-lines-preserved c =
    let l = c.loop-lines in
    let count_is : c.len.result ≡ length l.tasks.items = omega (arith, c.len.ensures) in
    let more : lacks c.args.asked (length l.tasks.items) ≡ true = rw count_is at (sym c.lacks.ensures ∙ c.loop-lines-test.true) in
    let few : length l.tasks.items < MAX_AGENTS = omega (arith, c.len-is_full.ensures, c.if-is_full.false) in
    let t = c.in_ok-task.task in
    let start = sym (l.invariant.starts t.start) ∙ was_new c.in_ok-insert.field-0 (contains is_same_cell l.starts t.start) c.in_ok-insert.ensures.added c.if-not-branch.false in
    let end = sym (l.invariant.goals t.goal) ∙ was_new c.in_ok-insert-2.field-0 (contains is_same_cell l.goals t.goal) c.in_ok-insert-2.ensures.added c.if-not-branch-2.false in
    let count = l.invariant.count in
    let next = c.in-Some.ensures in
    rw c.in_ok-push.ensures.items (record {
      so_far = goes_on c.args.grid.now c.args.asked l.number l.tasks.items l.lines _ l.invariant.so_far c.in-Some.line.now c.next_line.new.self more next (sym c.is_filled.ensures ∙ c.if-not-is_filled.false) few t (sym c.in_ok-task.ensures) start end;
      count = omega (arith, count, ap length next);
      starts = holds_more (contains is_same_cell l.starts) (contains is_same_cell c.insert.new.self) (λ s. s.start) l.tasks.items t l.invariant.starts c.in_ok-insert.ensures.updates.0;
      goals = holds_more (contains is_same_cell l.goals) (contains is_same_cell c.insert-in-loop-lines.new.self) (λ s. s.goal) l.tasks.items t l.invariant.goals c.in_ok-insert-2.ensures.updates.0;
    })

pub returns : goal.returns
returns c =
    let count_is : c.len.result ≡ length c.loop-lines.tasks.items = omega (arith, c.len.ensures) in
    let done : lacks c.args.asked (length c.loop-lines.tasks.items) ≡ false = rw count_is at (sym c.lacks.ensures ∙ c.loop-lines-test.false) in
    let total = stops c.args.grid.now c.args.asked c.loop-lines.number c.loop-lines.tasks.items c.loop-lines.lines _ c.loop-lines.invariant.so_far done in
    rw total c.enough_tasks-2.ensures

pub loop-lines-smaller : goal.loop-lines-smaller
loop-lines-smaller c = let shorter = ap length c.in-Some.ensures in omega (arith, shorter)
