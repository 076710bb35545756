use Rattle.fleet_verify.proofs.Words.{map, take, PassesOn, next_words, action_text}
use Rattle.fleet_verify.proofs.fault.put_actions.Given as goal

abbrev pub invariant-loop-action : goal.invariant-loop-action
invariant-loop-action g l = record {
  written : PassesOn (g.O.TraceOut.state l.fn.out) (g.O.TraceOut.state l.out) l.fn.row l.row (next_words (map action_text (take l.action-index l.actions)));
}
