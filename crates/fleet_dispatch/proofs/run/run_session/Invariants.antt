use Rattle.fleet_dispatch.proofs.Cited.{◌-◌, List, Line, IsReady, MAX_REPORTS}
use Rattle.fleet_dispatch.specs.Session.{course_in as course_of}
use Rattle.fleet_dispatch.proofs.Outcomes.{IsUnderWay}
use Rattle.fleet_dispatch.proofs.run.run_session.Given as goal

abbrev pub invariant-lines : goal.invariant-lines
invariant-lines g l =
    let p = g.P.ProgramView.program l.program in
    record {
      ready : IsReady p l.pace l.session;
      works : g.F.Floor.works l.floor;
      under_way : (lines : List Line) × IsUnderWay (course_of p l.pace l.initial.session) (g.F.Floor.talks l.initial.floor l.floor) l.session l.lines lines;
    }

abbrev pub decreases-lines : goal.decreases-lines
decreases-lines g l = MAX_REPORTS - l.lines
