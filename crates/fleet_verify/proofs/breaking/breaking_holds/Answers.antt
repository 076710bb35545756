use Rattle.fleet_verify.proofs.Words.{map, subst, sym, err_from_is_err_and, IfOk-weaker, IsNeededRow}
use Rattle.fleet_verify.proofs.BreakingHolds.{breaking_conflict}
use Rattle.fleet_verify.proofs.Rows.{rising_rows}
use Rattle.fleet_verify.proofs.breaking.breaking_holds.Goals as goal

pub holds_by-requires-clause-needed : goal.holds_by-requires-clause-needed
holds_by-requires-clause-needed g c =
    subst (IsNeededRow (g.P.ProgramView.program c.args.program.now) c.args.first c.args.second) (sym c.deref.ensures.value) c.in_ok-needed.ensures

pub returns-clause-meet : goal.returns-clause-meet
returns-clause-meet g c =
    IfOk-weaker c.holds_by.result _ _ (λ holds h q u.
    breaking_conflict (g.P.ProgramView.program c.args.program.now) c.requires.numbering.0 c.requires.numbering.1 q c.args.first c.args.second u (map (λ row. row.items) holds.items) h)
    c.holds_by.ensures

pub returns-clause-rising : goal.returns-clause-rising
returns-clause-rising g c = IfOk-weaker c.holds_by.result _ _ (λ holds h. rising_rows (λ row. row.items) holds.items h.rising) c.holds_by.ensures

pub returns-in_err-machine : goal.returns-in_err-machine
returns-in_err-machine g c =
    let e = err_from_is_err_and c.from_residual-in_err-machine.result c.from_residual-in_err-machine.ensures.1 in
    rw (e.1, e.2) (record { holds = tt; rising = tt; meet = tt })

pub returns-in_err-needed : goal.returns-in_err-needed
returns-in_err-needed g c =
    let e = err_from_is_err_and c.from_residual.result c.from_residual.ensures.1 in
    rw e.1 (record { holds = tt; rising = tt; meet = tt })
