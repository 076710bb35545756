use Rattle.fleet_search.proofs.Words.{◌-◌, inl, inr, refl, subst, sym, arith, earliest_in, IsStateSettled, IsSuperseded, IsFoundInDir}
use Rattle.fleet_search.proofs.SearchSteps.{expanded, left_done, each_dir, Grows-then, found-stays}
use Rattle.fleet_search.proofs.frontier.Frontier.expand.Goals as goal

pub returns-then-is_superseded : goal.returns-then-is_superseded
returns-then-is_superseded c =
    let q = c.args.query.now in
    let s = c.args.self.now in
    record {
      frontier = left_done q (c.args.bucket - 1) c.args.place s.nodes (earliest_in s.labels) s.open_list c.requires.frontier
          (inr (subst (IsSuperseded q s.nodes) (sym c.requires.left.here) (c.is_superseded.ensures.0 c.if-is_superseded.true)));
      grows = record { more = omega arith; kept = λ i h. refl; same = λ e k. refl };
    }

pub returns : goal.returns
returns c =
    let q = c.args.query.now in
    let l = c.args.state in
    let s1 = c.successors_towards.new.self in
    let s2 = c.successors_towards-2.new.self in
    let s3 = c.successors_towards-3.new.self in
    let s4 = c.successors_towards-4.new.self in
    let g4 = c.in_ok-successors_towards-4.ensures.expands_on.grows in
    let g3 = Grows-then s2 s3 s4 c.in_ok-successors_towards-3.ensures.expands_on.grows g4 in
    let g2 = Grows-then s1 s2 s4 c.in_ok-successors_towards-2.ensures.expands_on.grows g3 in
    let r = s4.nodes in
    let done = expanded q r l (each_dir (λ dir. IsFoundInDir q l dir r) (λ x e. found-stays q s2.nodes r g3.more g3.kept l x (c.in_ok-successors_towards-2.ensures.found x e)) (λ x e. found-stays q s3.nodes r g4.more g4.kept l x (c.in_ok-successors_towards-3.ensures.found x e)) (λ x e. found-stays q s1.nodes r g2.more g2.kept l x (c.in_ok-successors_towards.ensures.found x e)) c.in_ok-successors_towards-4.ensures.found) c.requires.not_end in
    let leaving = c.in_ok-successors_towards-4.ensures.expands_on.leaving in
    record {
      frontier = left_done q (c.args.bucket - 1) c.args.place r (earliest_in s4.labels) s4.open_list leaving.frontier (subst (IsStateSettled q r) (sym leaving.left.here) (inl done));
      grows = Grows-then c.args.self.now s1 s4 c.in_ok-successors_towards.ensures.expands_on.grows g2;
    }

pub interval-interval-requires-clause-measured : goal.interval-interval-requires-clause-measured
interval-interval-requires-clause-measured c = c.requires.frontier.measured

pub is_superseded-requires-clause-frontier : goal.is_superseded-requires-clause-frontier
is_superseded-requires-clause-frontier c = c.requires.frontier

pub is_superseded-requires-clause-left : goal.is_superseded-requires-clause-left
is_superseded-requires-clause-left c = c.requires.left
