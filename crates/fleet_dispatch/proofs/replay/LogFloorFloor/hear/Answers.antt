use Rattle.fleet_dispatch.proofs.Cited.{◌≡◌, ◌+◌, ◌∙◌, ℕ, List, Some, Ok, take, drop, refl, ap, sym, arith, ⊤, take_rest, position-Some, strip_carriage_return, is_lf, line_of, heard_line, Words, HasLine, Hears, ReplaysTurns, ReportForm, LineKind, Report, Question}
use Rattle.fleet_dispatch.proofs.replay.LogFloorFloor.hear.Goals as goal

heard_so : (form : ReportForm) (log line rest : List ℕ) (heard : LineKind) (words : Words) → HasLine log line rest → line_of form line ≡ Some (heard_line heard words) → Hears (λ talk. ReplaysTurns form log rest talk × (form ≡ form)) ⊤ (Ok (Some heard)) words
heard_so form log line rest Report words has said = (((rest, (line, has, said), refl), refl), tt)
heard_so form log line rest Question words has said = (((rest, (line, has, said), refl), refl), tt)

pub returns : goal.returns
returns c =
    let text = c.args.self.now.rest.now in
    let end = c.in-Some.end in
    let line = strip_carriage_return (take end text) in
    heard_so c.args.self.now.form text line _ c.in-Some-read_line.heard c.read_line.new.report (record { end = end; ends = sym c.end_in.ensures ∙ c.in-Some.is; line_is = refl; rest_is = take_rest text (end + 1) })
    (ap (line_of c.args.self.now.form) (sym c.without_cr-line.ensures) ∙ c.in-Some-read_line.ensures)

pub returns-in_default-read_line : goal.returns-in_default-read_line
returns-in_default-read_line c =
    let text = c.args.self.now.rest.now in
    let end = c.in-Some.end in
    let line = strip_carriage_return (take end text) in (
      (
        text,
        (
          line,
          drop (end + 1) text,
          record { end = end; ends = sym c.end_in.ensures ∙ c.in-Some.is; line_is = refl; rest_is = refl },
          ap (line_of c.args.self.now.form) (sym c.without_cr-line.ensures) ∙ c.in_default-read_line.ensures,
        ),
        refl,
      ),
      refl,
    )

pub overflow_add-self : goal.overflow_add-self
overflow_add-self c =
    let within = (position-Some is_lf c.args.self.now.rest.now c.in-Some.end 0 (sym c.end_in.ensures ∙ c.in-Some.is)).0 in
    omega (arith, within)
