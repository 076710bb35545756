use Rattle.fleet_dispatch.proofs.Cited.{◌≡◌, ◌++◌, [], ℕ, List, arith, refl, append-nil, drop_all, codes, count_line, closing}
use Rattle.fleet_dispatch.proofs.orders.write_closing.Goals as goal

four_joined : (w a m r rest r1 r2 r3 r4 : List ℕ) → rest ≡ [] → r1 ≡ r ++ rest → r2 ≡ m ++ r1 → r3 ≡ a ++ r2 → r4 ≡ w ++ r3 → r4 ≡ w ++ (a ++ (m ++ r))
four_joined w a m r rest r1 r2 r3 r4 none h1 h2 h3 h4 = rw (h4, h3, h2, h1, none, append-nil) refl

pub returns-clause-written : goal.returns-clause-written
unfolding closing
returns-clause-written c =
    let none = drop_all 100 c.args.row.now (omega arith) in
    four_joined (codes "arrived\n") (count_line (codes "agents") c.args.agents) (count_line (codes "moves") c.args.moves) (count_line (codes "reports") c.args.reports)
    _ _ _ _ _ none c.write_count_line-at.ensures.written c.write_count_line-at-2.ensures.written c.write_count_line-at-3.ensures.written c.write_bytes.ensures.written
