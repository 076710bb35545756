use Rattle.fleet_dispatch.proofs.Cited.{◌≡◌, ◌∙◌, true, get_or, sym, ap, arith, le-leb, leb-true, rules, list_all, lt-leb, take_all, All-contains, list_all_more, AllPass-from_list_all, slice_get_within, get_or_from_slice_get, Await, awaits_of, awaited_agent, is_done}
use Rattle.fleet_dispatch.proofs.Found.{first_found, none_found}
use Rattle.fleet_dispatch.proofs.progress.Progress.missing.Goals as goal

pub done_of-requires : goal.done_of-requires
done_of-requires g c =
    let p = g.P.ProgramView.program c.args.program.now in
    let there = awaited_agent p c.args.i c.args.n c.loop-k.k c.await_at-awaited.result c.requires.well_formed c.await_at-awaited.ensures in
    omega (arith, there, c.requires.rows.done)

pub returns-then-is_missing : goal.returns-then-is_missing
returns-then-is_missing g c =
    let p = g.P.ProgramView.program c.args.program.now in
    let w = c.await_at-awaited.result in
    let ws = awaits_of p c.args.i c.args.n in
    let at = c.await_at-awaited.ensures in
    record {
      missing = record {
        is_await = (c.loop-k.k, slice_get_within ws c.loop-k.k w at, get_or_from_slice_get ws c.loop-k.k w w at);
        agent = awaited_agent p c.args.i c.args.n c.loop-k.k w c.requires.well_formed at;
        unmet = omega (arith, c.if-is_missing.true, c.done_of.ensures);
      };
      first = first_found (is_done c.args.self.now.done) ws c.loop-k.k w c.loop-k.invariant at (lt-leb _ _ (omega (arith, c.if-is_missing.true, c.done_of.ensures)));
    }

pub loop-k-preserved : goal.loop-k-preserved
loop-k-preserved g c =
    let p = g.P.ProgramView.program c.args.program.now in
    let w = c.await_at-awaited.result in
    let ws = awaits_of p c.args.i c.args.n in
    let at = c.await_at-awaited.ensures in
    let met : is_done c.args.self.now.done w ≡ true = le-leb _ _ (omega (arith, c.if-is_missing.false, c.done_of.ensures)) in
    let here : is_done c.args.self.now.done (get_or ws c.loop-k.k w) ≡ true = ap (is_done c.args.self.now.done) (get_or_from_slice_get ws c.loop-k.k w w at) ∙ met in
    rw (list_all_more (is_done c.args.self.now.done) ws c.loop-k.k w (slice_get_within ws c.loop-k.k w at), c.loop-k.invariant, here) (search rules)

pub returns : goal.returns
returns g c =
    let ws = awaits_of (g.P.ProgramView.program c.args.program.now) c.args.i c.args.n in
    let all : list_all (is_done c.args.self.now.done) ws ≡ true = ap (list_all (is_done c.args.self.now.done)) (sym (take_all c.loop-k.k ws (omega (arith, c.loop-k-test.false, c.await_count-k-end.ensures)))) ∙ c.loop-k.invariant in
    record {
      missing = λ w h. leb-true _ _ (All-contains (λ (v : Await). is_done c.args.self.now.done v ≡ true) ws w (AllPass-from_list_all (is_done c.args.self.now.done) ws all) h);
      first = none_found (is_done c.args.self.now.done) ws all;
    }
