use Rattle.fleet_needs.proofs.Words.{◌+◌, arith, unit_cost, critical_cost, ends_dearer, ends_within}
use Rattle.fleet_needs.proofs.Walking.{own_cost}
use Rattle.fleet_needs.proofs.critical.CriticalCosts.levels.Goals as goal

pub of-requires : goal.of-requires
of-requires g c = record {
  range = c.requires.range;
  number = c.requires.number;
  rising = c.requires.rising;
  upto = λ a is. omega (arith, c.requires.upto a is);
}

pub returns-clause-most : goal.returns-clause-most
returns-clause-most g c = λ a is.
    omega (arith, ends_within (g.P.ProgramView.program c.args.program.now) c.requires.number c.requires.rising (critical_cost c.in_ok-levels.levels a) a (c.in_ok-levels.ensures.each a is).some, c.requires.upto a is)

pub returns-clause-levels : goal.returns-clause-levels
returns-clause-levels g c =
    let p = g.P.ProgramView.program c.args.program.now in
    let m = c.in_ok-levels.levels in
    let h = c.in_ok-levels.ensures in
    record {
      range = c.requires.range;
      entries = h.entries;
      rising = record {
        positive = λ a is. own_cost p unit_cost a (critical_cost m a) is (h.each a is);
        rising = λ a b is needed need. (let k = (h.each a is).most (critical_cost m b + 1) (ends_dearer p unit_cost (critical_cost m b) b a (h.each b needed).some is need) in omega (arith, k));
      };
      most = λ a is. omega (arith, ends_within p c.requires.number c.requires.rising (critical_cost m a) a (h.each a is).some, c.requires.upto a is, c.ranges.most.fits);
    }
