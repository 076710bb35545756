use Rattle.fleet_dispatch.proofs.Cited.{◌≡◌, ◌∙◌, List, ℕ, length, take, ap, sym, subst, arith, position-Some, prepend_known, strip_carriage_return, is_lf, line_of, heard_line, GivesLine, window_rest}
use Rattle.fleet_dispatch.proofs.StreamLemmas.{unfound, misheard, heard}
use Rattle.fleet_dispatch.proofs.hearing.hear_line.Goals as goal

pub returns-in_err-found : goal.returns-in_err-found
returns-in_err-found g c =
    unfound c.args.form _ _ _ _ c.in_err-found.field-0.0 c.from_residual.result c.args.report.now c.from_residual.ensures.1 c.in_err-found.ensures.0 c.in_err-found.ensures.1

pub returns-in_default-read_line : goal.returns-in_default-read_line
returns-in_default-read_line g c =
    let read = window_rest c.find_line.new.window in
    let line : c.without_cr-line.result.now ≡ strip_carriage_return (take c.in-Some.end read) = c.without_cr-line.ensures ∙ ap (λ (xs : List ℕ). strip_carriage_return (take c.in-Some.end xs)) c.rest.ensures in
    misheard c.args.form _ read (g.R.Read.remaining c.find_line.new.input) c.in-Some.end c.in_ok-found.ensures.0 (c.in_ok-found.ensures.1.0 ∙ c.in-Some.is)
    (ap (line_of c.args.form) (sym line) ∙ c.in_default-read_line.ensures)

pub returns : goal.returns
returns g c =
    let read = window_rest c.find_line.new.window in
    let left = g.R.Read.remaining c.find_line.new.input in
    let said = heard_line c.in-Some-read_line.heard c.read_line.new.report in
    let line : c.without_cr-line.result.now ≡ strip_carriage_return (take c.in-Some.end read) = c.without_cr-line.ensures ∙ ap (λ (xs : List ℕ). strip_carriage_return (take c.in-Some.end xs)) c.rest.ensures in
    subst (λ (xs : List ℕ). GivesLine c.args.form (prepend_known (window_rest c.args.window.now) (g.R.Read.remaining c.args.input.now)) (prepend_known xs left) said) (sym c.pass.ensures)
    (heard c.args.form _ read left c.in-Some.end said c.in_ok-found.ensures.0 (c.in_ok-found.ensures.1.0 ∙ c.in-Some.is)
    (ap (line_of c.args.form) (sym line) ∙ c.in-Some-read_line.ensures))

pub overflow_add-end : goal.overflow_add-end
overflow_add-end g c =
    let within = (position-Some is_lf (window_rest c.find_line.new.window) c.in-Some.end 0 (c.in_ok-found.ensures.1.0 ∙ c.in-Some.is)).0 in
    omega (arith, within, ap length c.rest.ensures)

pub pass-requires : goal.pass-requires
pass-requires g c =
    let within = (position-Some is_lf (window_rest c.find_line.new.window) c.in-Some.end 0 (c.in_ok-found.ensures.1.0 ∙ c.in-Some.is)).0 in
    omega (arith, within)
