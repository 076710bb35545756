use Rattle.fleet_search.proofs.Words.{◌≡◌, ◌+◌, ◌<◌, length, get_or, take_all, length-set, sym, ap, ◌∙◌, subst, arith, length_push}
use Rattle.fleet_search.proofs.OrderLaws.{agents_below, last_left, ArePlaced, placed-more, all_placed}
use Rattle.fleet_search.proofs.orders.by_number.Goals as goal

pub loop-path-init : goal.loop-path-init
loop-path-init c = record {
  agents = c.in_ok-plan.ensures;
  few = omega arith;
  front = sym (take_all (length c.args.paths.items) c.args.paths.items (omega arith));
  done = λ k a b. absurd (omega arith);
}

pub index_mut-requires : goal.index_mut-requires
index_mut-requires c =
    let i = c.loop-path.invariant in
    let n = length c.args.problem.now.instance.now in
    let left = length c.pop.new.self.items in
    let less : left < length c.args.order.now = omega (arith, c.in-Some.ensures.len) in
    let below : get_or c.args.order.now left 0 < n = agents_below n c.args.order.now c.requires.order left 0 less in
    let is : c.from.result ≡ get_or c.args.order.now left 0 = c.from.ensures ∙ ap (λ z. get_or c.args.order.now z 0) (c.len.ensures ∙ c.pop.new.self.ok.0) in
    omega (arith, i.agents)

pub loop-path-preserved : goal.loop-path-preserved
loop-path-preserved c =
    let i = c.loop-path.invariant in
    let n = length c.args.problem.now.instance.now in
    let rest = c.pop.new.self.items in
    let left = length rest in
    let plan = c.loop-path.plan.items in
    let order = c.args.order.now in
    let one : length c.loop-path.left.items ≡ left + 1 = ap length c.in-Some.ensures.items ∙ length_push rest c.in-Some.path in
    let less : left < length order = omega arith in
    let is : c.from.result ≡ get_or order left 0 = c.from.ensures ∙ ap (λ z. get_or order z 0) (c.len.ensures ∙ c.pop.new.self.ok.0) in
    let last = last_left c.args.paths.items c.loop-path.left.items rest c.in-Some.path i.front c.in-Some.ensures.items in
    record {
      agents = length-set plan c.from.result c.in-Some.path ∙ i.agents;
      few = omega arith;
      front = last.0;
      done = placed-more n order c.requires.order c.args.paths.items plan left c.from.result c.in-Some.path i.agents less is last.1 (subst (ArePlaced order c.args.paths.items plan) one i.done);
    }

pub returns : goal.returns
returns c =
    let i = c.loop-path.invariant in
    let none : length c.loop-path.left.items ≡ 0 = omega (arith, c.in_default.ensures.cases) in
    record {
      agents = i.agents;
      same = all_placed c.args.order.now c.args.paths.items c.loop-path.plan.items c.requires.paths (subst (ArePlaced c.args.order.now c.args.paths.items c.loop-path.plan.items) none i.done);
    }
