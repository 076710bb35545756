use Rattle.fleet_verify.proofs.Words.{◌≡◌, ◌+◌, ◌<◌, ◌∙◌, length, sym, ap, arith, inl, awaits_of, climbed_in, last_level}
use Rattle.fleet_verify.proofs.NextLevel.{least_begins, least_ends}
use Rattle.fleet_verify.proofs.Climbing.{own_row, own_count}
use Rattle.fleet_verify.proofs.ahead.bare_needs.Goals as goal

pub returns-in-Step-clause-says : goal.returns-in-Step-clause-says
returns-in-Step-clause-says g c =
    let p = g.P.ProgramView.program c.args.program.now in
    let next = c.requires.next in
    let rows = c.args.rows.now.items in
    let i = c.args.agent in
    let r = c.args.runner in
    let lt : i < length rows = omega (arith, c.requires.rows, next.agent) in
    let count = own_count rows i r.finished lt next.begun in
    let said = rw c.in-Step.is at c.read-reading.ensures.instruction in
    let none : 0 ≡ length (awaits_of p i (r.finished + 1)) = said.0 in
    record {
      needs = record {
        level = least_ends p (climbed_in rows i r.finished) i (r.finished + 1) 0 r.level
            (least_begins p (climbed_in rows i r.finished) i (r.finished + 1) r.level (omega (arith, count)) (next.level ∙ ap last_level (sym (own_row rows i r.finished lt))))
            (omega (arith, count)) (omega (arith, none)) _ (omega arith);
        latest = inl c.no_await.ensures.agent;
        step = said.1;
        after = rw c.in-Step.is at c.read-reading.ensures.after;
      };
      latest = inl (sym none, λ k. record { agent = c.no_await.ensures.agent k; count = c.no_await.ensures.count k });
    }
