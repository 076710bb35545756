use Rattle.fleet_verify.proofs.Words.{take, flat_map, PassesOn, next_words}
use Rattle.fleet_verify.proofs.Stretches.{words_of}
use Rattle.fleet_verify.proofs.stretch.put_stretches.Given as goal

abbrev pub invariant-loop-stretch : goal.invariant-loop-stretch
invariant-loop-stretch g l = record {
  written : PassesOn (g.O.TraceOut.state l.fn.out) (g.O.TraceOut.state l.out) l.fn.row l.row (next_words (flat_map words_of (take l.stretch-index l.stretches)));
}
