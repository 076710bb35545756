use Rattle.std.proofs.Common.{◌≡◌, ◌+◌, ◌-◌, ◌≤◌, get_or, subst, sym, ◌∙◌, arith}
use Rattle.fleet_verify.proofs.CoveredLanes.{masked, none_less, all_at_least, eq_zero, zero_eq}
use Rattle.fleet_verify.proofs.covers.lane_covers.Goals as goal

pub returns : goal.returns
returns c =
    let row = c.args.row.now in
    let other = c.args.other.now in
    let from = c.args.from in
    let mask = masked row other from c.requires.same c.requires.lane in (
      (λ yes k above below.
          let e : from + (k - from) ≡ k = omega arith in
          subst (λ n. get_or other n 0 ≤ get_or row n 0) e
          (none_less row other from c.requires.same c.requires.lane (sym mask ∙ eq_zero _ yes) (k - from) (omega arith))),
      (λ all. zero_eq _ (mask ∙ all_at_least row other from c.requires.same c.requires.lane (λ k l. all (from + k) (omega arith) (omega arith)))),
    )
