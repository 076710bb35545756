use Rattle.fleet_run.proofs.Words.{◌≤◌, ◌+◌, length, Runs, ArePlacesKept}
use Rattle.fleet_run.proofs.Passing.{IsSoFar}
use Rattle.fleet_run.proofs.Progress.{all_left}
use Rattle.fleet_run.proofs.run.run_in.Given as goal

abbrev pub invariant-ticks : goal.invariant-ticks
invariant-ticks g l =
    let p = g.P.ProgramView.program l.program in
    let first = g.S.HoldSource.state l.initial.source in
    let now = g.S.HoldSource.state l.source in
    record {
      runs : Runs p l.machine;
      looked : l.initial.machine.looked ≤ l.machine.looked;
      so_far : IsSoFar p first now (g.O.TraceOut.state l.initial.out) (g.O.TraceOut.state l.out) l.machine.configuration l.counts.ticks l.counts.held l.source_ended l.flags;
      kept : ArePlacesKept l.machine.configuration l.row l.begins l.places;
    }

abbrev pub decreases-ticks : goal.decreases-ticks
decreases-ticks g l = length (g.S.HoldSource.state l.source).ticks + all_left (g.P.ProgramView.program l.program) l.machine.configuration
