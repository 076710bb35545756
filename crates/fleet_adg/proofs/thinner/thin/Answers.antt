use Rattle.fleet_adg.proofs.Words.{sym, ap, subst, Program, is_passable, IsAcceptedFor, IsThinned, IsThinnedFor}
use Rattle.fleet_adg.proofs.Thinning.{thinned_short}
use Rattle.fleet_adg.proofs.ThinnedBytes.{never_over}
use Rattle.fleet_adg.proofs.thinner.thin.Goals as goal

pub returns-clause-thinned : goal.returns-clause-thinned
returns-clause-thinned g c =
    let p = g.P.ProgramView.program c.args.accepted.now.program in
    let made = c.in_ok-thinned.ensures in
    let is = c.in_ok-program.ensures made.0 (rw c.deref.ensures.value made.1.spelled.spelled) in
    subst (IsThinnedFor (is_passable c.args.accepted.now.grid) c.args.accepted.now.instance p c.args.accepted.now.chain) (sym is) made.2

pub returns-clause-moves : goal.returns-clause-moves
returns-clause-moves g c =
    let p = g.P.ProgramView.program c.args.accepted.now.program in
    let made = c.in_ok-thinned.ensures in
    let is = c.in_ok-program.ensures made.0 (rw c.deref.ensures.value made.1.spelled.spelled) in
    let gone = subst (IsThinned p) (sym is) made.2.is in
    λ never. never_over p c.in_ok-program.program gone.rest.agents gone.rest.steps never

pub returns-clause-short : goal.returns-clause-short
returns-clause-short g c =
    let p = g.P.ProgramView.program c.args.accepted.now.program in
    let made = c.in_ok-thinned.ensures in
    let is = c.in_ok-program.ensures made.0 (rw c.deref.ensures.value made.1.spelled.spelled) in
    let known = subst (λ (x : Program). IsAcceptedFor c.args.accepted.now.grid c.args.accepted.now.instance x c.args.accepted.now.chain) (ap g.P.ProgramView.program c.program-program.ensures.program) c.program-program.ensures.accepted in
    thinned_short p c.in_ok-program.program (subst (IsThinned p) (sym is) made.2.is) known.accepted.right.in_range
