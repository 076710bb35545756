use Rattle.fleet_verify.proofs.Words.{◌≡◌, length, map, run, Runs}
use Rattle.fleet_verify.proofs.BreakingHolds.{IsBegun}
use Rattle.fleet_verify.proofs.breaking.holds_by.Given as goal

abbrev pub invariant-loop-t : goal.invariant-loop-t
invariant-loop-t g l =
    let p = g.P.ProgramView.program l.program in
    let holds = map (λ row. row.items) l.holds.items in
    record {
      begun : IsBegun p l.v l.w holds;
      runs : Runs p l.machine;
      here : l.machine.configuration ≡ run p holds (length holds);
      ticks : length holds ≡ l.t;
    }
