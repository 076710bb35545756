use Rattle.fleet_plan.proofs.Words.{◌≡◌, ◌<◌, ◌∙◌, [], ◌∷◌, length, rules, arith, length-append, err_from_is_err_and, MAX_AGENTS}
use Rattle.fleet_plan.proofs.LineLoop.{lines_end, too_many, fails, goes_on, none_ended, some_ended}
use Rattle.fleet_plan.proofs.reading.paths_of.Goals as goal

pub returns-then-is_full : goal.returns-then-is_full
returns-then-is_full c =
    let l = c.loop-line in
    λ other. too_many l.paths.items l.lines _ l.invariant.so_far _ _ c.in-Some.ensures (omega (arith, c.len-is_full.ensures, c.if-is_full.true))

pub returns-in_err-path : goal.returns-in_err-path
returns-in_err-path c =
    let l = c.loop-line in
    let few : length l.paths.items < MAX_AGENTS = omega (arith, c.len-is_full.ensures, c.if-is_full.false) in
    let p = err_from_is_err_and c.from_residual.result c.from_residual.ensures.1 in
    let number : c.len.result ≡ length l.paths.items = omega (arith, c.len.ensures) in
    rw (p.1, p.2) (λ other. fails l.paths.items l.lines _ l.invariant.so_far _ _ c.in-Some.ensures few c.in_err-path.field-0.0 ((rw number at c.in_err-path.ensures) other))

pub loop-line-preserved : goal.loop-line-preserved
loop-line-preserved c =
    let l = c.loop-line in
    let few : length l.paths.items < MAX_AGENTS = omega (arith, c.len-is_full.ensures, c.if-is_full.false) in
    let number : c.len.result ≡ length l.paths.items = omega (arith, c.len.ensures) in
    rw c.in_ok-push.ensures.items (record {
      few = omega (arith, few, length-append l.paths.items (c.in_ok-path.path ∷ []));
      so_far = goes_on l.paths.items l.lines _ l.invariant.so_far _ _ c.in-Some.ensures few c.in_ok-path.path (rw number at c.in_ok-path.ensures);
    })

pub returns-then-is_empty : goal.returns-then-is_empty
returns-then-is_empty c =
    let l = c.loop-line in
    λ other. lines_end l.paths.items l.lines _ l.invariant.so_far c.in_default.ensures.0 ∙ none_ended l.paths.items (search rules)

pub returns : goal.returns
returns c =
    let l = c.loop-line in
    lines_end l.paths.items l.lines _ l.invariant.so_far c.in_default.ensures.0 ∙ some_ended l.paths.items (search rules)
