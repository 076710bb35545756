use Rattle.fleet_adg.proofs.Words.{◌≡◌, AddsActions}
use Rattle.fleet_adg.proofs.thinner.put_actions.Given as goal

abbrev pub invariant-loop-finished : goal.invariant-loop-finished
invariant-loop-finished g l = record {
  at : l.at ≡ g.P.ProgramView.offset l.program l.i l.finished 0;
  put : AddsActions l.version (g.P.ProgramView.program l.program) l.i l.finished l.fn.out.items l.out.items;
}
