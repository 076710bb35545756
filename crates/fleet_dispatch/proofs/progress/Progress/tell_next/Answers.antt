use Rattle.fleet_dispatch.proofs.Cited.{◌≡◌, ◌+◌, ◌∙◌, refl, sym, ap, arith, take, ◌++◌, Place, path, in_reach, step_from, count_of, order_text, order_line}
use Rattle.fleet_dispatch.proofs.progress.Progress.tell_next.Goals as goal

pub after-to-requires : goal.after-to-requires
after-to-requires g c =
    let p = g.P.ProgramView.program c.args.program.now in
    in_reach p c.requires.well_formed c.args.i (count_of c.args.self.now.told c.args.i) c.place_of-from.result (omega (arith, c.requires.untold.left)) (c.place_of-from.ensures ∙ c.requires.untold.place c.place_of-from.result)

pub returns : goal.returns
unfolding order_line
returns g c =
    let p = g.P.ProgramView.program c.args.program.now in
    let n = count_of c.args.self.now.told c.args.i in
    let here : c.place_of-from.result ≡ path p c.args.i n = c.place_of-from.ensures ∙ c.requires.untold.place c.place_of-from.result in
    let there : c.after-to.result ≡ path p c.args.i (n + 1) =
    c.after-to.ensures ∙ sym (step_from p c.args.i n c.place_of-from.result _ here (rw c.next_of-number.ensures at c.step.ensures)) in
    record {
      told = rw (c.advance.ensures, c.next_of-number.ensures, there) refl;
      high = c.add_order.ensures.high;
      written = c.add_order.ensures.written
          ∙ ap (λ m. take c.args.at c.args.row.now ++ order_text c.args.form c.args.i m c.place_of-from.result c.after-to.result) c.next_of-number.ensures
          ∙ ap (λ (q : Place). take c.args.at c.args.row.now ++ order_text c.args.form c.args.i (n + 1) q c.after-to.result) here
          ∙ ap (λ (q : Place). take c.args.at c.args.row.now ++ order_text c.args.form c.args.i (n + 1) (path p c.args.i n) q) there;
    }
