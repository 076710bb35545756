use Rattle.fleet_verify.proofs.Words.{rules, ◌∙◌, ap, sym, subst, flat_map, take_all, next_words, PassesOn, gathers_err, passed_words, stops_within_words}
use Rattle.fleet_verify.proofs.Stretches.{words_of, path_words}
use Rattle.fleet_verify.proofs.stretch.put_stretches.Goals as goal

pub returns-in_err-put_numbered : goal.returns-in_err-put_numbered
returns-in_err-put_numbered g c =
    gathers_err _ _ _ _ _ _ (search rules)
    (rw (path_words c.args.stretches.now) (stops_within_words words_of _ _ _ _ _ _ _ _ c.loop-stretch-test.true c.loop-stretch.invariant.written c.in_err-put_numbered.ensures))

pub loop-stretch-preserved : goal.loop-stretch-preserved
loop-stretch-preserved g c = record {
  written = passed_words words_of _ _ _ _ _ _ _ _ _ c.loop-stretch-test.true c.loop-stretch.invariant.written c.in_ok-put_numbered.ensures;
}

pub returns : goal.returns
returns g c =
    let all = ap (λ xs. next_words (flat_map words_of xs)) (take_all c.loop-stretch.stretch-index c.args.stretches.now c.loop-stretch-test.false) ∙ ap next_words (sym (path_words c.args.stretches.now)) in
    subst (PassesOn (g.O.TraceOut.state c.args.out.now) (g.O.TraceOut.state c.loop-stretch.out) c.args.row.now c.loop-stretch.row) all c.loop-stretch.invariant.written
