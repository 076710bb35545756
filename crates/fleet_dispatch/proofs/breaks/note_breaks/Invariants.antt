use Rattle.fleet_dispatch.proofs.Cited.{◌≡◌, length, take, breaks_from}
use Rattle.fleet_dispatch.proofs.BreakLemmas.{NameFirst}
use Rattle.fleet_dispatch.proofs.breaks.note_breaks.Given as goal

abbrev pub invariant-loop-word : goal.invariant-loop-word
invariant-loop-word g l = record {
  all : length l.breaks.items ≡ length (g.P.ProgramView.program l.program);
  noted : l.breaks.items ≡ breaks_from l.fn.breaks.items (take l.word-index l.words);
  actions : NameFirst (g.P.ProgramView.program l.program) l.words l.word-index;
}
