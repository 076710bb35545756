use Rattle.fleet_dispatch.proofs.Cited.{◌≡◌, ◌+◌, ◌∙◌, ◌++◌, ℕ, List, length, ap, sym, arith, flat_map, range_with_len, left_line, standings_text}
use Rattle.fleet_dispatch.proofs.Texts.{flat_more}
use Rattle.fleet_dispatch.proofs.progress.Progress.write_standings.Goals as goal

pub loop-i-preserved : goal.loop-i-preserved
loop-i-preserved g c =
    let p = g.P.ProgramView.program c.args.program.now in
    let f = left_line p c.args.self.now.done in
    let i = c.loop-i.i in
    let here : 0 + i ≡ i = omega arith in
    let inv = c.loop-i.invariant in
    record {
      at = omega (arith, c.add_left-at.ensures.high, inv.at);
      row = c.add_left-at.auto.row ∙ inv.row;
      written = c.add_left-at.ensures.written ∙ ap (λ (x : List ℕ). x ++ f i) inv.written ∙ sym (flat_more f 0 i ∙ ap (λ (k : ℕ). flat_map f (range_with_len 0 i) ++ f k) here);
    }

pub returns-clause-written : goal.returns-clause-written
unfolding standings_text
returns-clause-written g c =
    let p = g.P.ProgramView.program c.args.program.now in
    let all : c.loop-i.i ≡ length p = omega (arith, c.loop-i-test.false, c.agents-i-end.ensures.count) in
    c.loop-i.invariant.written ∙ ap (λ (n : ℕ). flat_map (left_line p c.args.self.now.done) (range_with_len 0 n)) all
