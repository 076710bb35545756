use Rattle.std.proofs.Common.{◌≡◌, ◌∙◌, None, Some, refl, sym}
use Rattle.std.proofs.lemmas.Result.{err_from_is_err_and}
use Rattle.fleet_text.specs.Text.{words}
use Rattle.fleet_scen.specs.Fields.{fields_of}
use Rattle.fleet_scen.proofs.NumberLaws.{numbers_are}
use Rattle.fleet_scen.proofs.reading.numbers_of.Goals as goal

pub returns-in_err-width : goal.returns-in_err-width
returns-in_err-width c =
    let p = err_from_is_err_and c.from_residual.result c.from_residual.ensures.1 in
    let fields : fields_of (words c.args.line.now) ≡ Some c.in-Some.fields = sym c.in-Some.ensures in
    rw (p.1, p.2) (sym (numbers_are c.args.number (words c.args.line.now) ∙ rw (fields, sym c.in_err-width.ensures) refl))

pub returns-in_err-x : goal.returns-in_err-x
returns-in_err-x c =
    let p = err_from_is_err_and c.from_residual-in_err-x.result c.from_residual-in_err-x.ensures.1 in
    let fields : fields_of (words c.args.line.now) ≡ Some c.in-Some.fields = sym c.in-Some.ensures in
    rw (p.1, p.2) (sym (numbers_are c.args.number (words c.args.line.now) ∙ rw (fields, sym c.in_ok-width.ensures, sym c.in_err-x.ensures) refl))

pub returns-in_err-x-2 : goal.returns-in_err-x-2
returns-in_err-x-2 c =
    let p = err_from_is_err_and c.from_residual-in_err-x-2.result c.from_residual-in_err-x-2.ensures.1 in
    let fields : fields_of (words c.args.line.now) ≡ Some c.in-Some.fields = sym c.in-Some.ensures in
    rw (p.1, p.2) (sym (numbers_are c.args.number (words c.args.line.now) ∙ rw (fields, sym c.in_ok-width.ensures, sym c.in_ok-x.ensures, sym c.in_err-x-2.ensures) refl))

pub returns : goal.returns
returns c =
    let fields : fields_of (words c.args.line.now) ≡ Some c.in-Some.fields = sym c.in-Some.ensures in
    sym (numbers_are c.args.number (words c.args.line.now) ∙ rw (fields, sym c.in_ok-width.ensures, sym c.in_ok-x.ensures, sym c.in_ok-x-2.ensures) refl)

pub returns-in_default : goal.returns-in_default
returns-in_default c =
    let none : fields_of (words c.args.line.now) ≡ None = sym c.in_default.ensures in
    sym (numbers_are c.args.number (words c.args.line.now) ∙ rw none refl)
