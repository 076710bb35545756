use Rattle.fleet_search.proofs.Words.{◌≡◌, ◌-◌, None, Some, length, sym, ap, ◌∙◌, subst, arith, length_push, Node, Exploration, earliest_in, bucket_of, IsGoalState, WasOpen}
use Rattle.fleet_search.proofs.SearchSteps.{taken-off, taken-left, swept-off, frontier_of_lower_bucket, frontier_of_higher_bucket}
use Rattle.fleet_search.proofs.frontier.Frontier.expand_bucket.Goals as goal

pub node-requires : goal.node-requires
node-requires c =
    let w = c.in-Some.ensures.some in
    let same = ap (λ (z : Exploration). length z.nodes) w.rest in
    let within = w.within in
    omega arith

pub expand-requires-clause-frontier : goal.expand-requires-clause-frontier
expand-requires-clause-frontier c =
    let t = c.take.new.self in
    frontier_of_lower_bucket c.args.query.now c.args.bucket (c.args.bucket - 1) (Some c.in-Some.place) t.nodes (earliest_in t.labels) t.open_list (omega arith) (taken-off c.args.query.now c.args.bucket c.in-Some.place c.loop-place.self t c.loop-place.invariant.0 c.in-Some.ensures.some)

pub expand-requires-clause-left : goal.expand-requires-clause-left
expand-requires-clause-left c =
    subst (λ (z : Node). WasOpen c.args.query.now c.args.bucket c.take.new.self c.in-Some.place z.state) (sym c.node.ensures) (taken-left c.args.query.now c.args.bucket c.in-Some.place c.loop-place.self c.take.new.self c.loop-place.invariant.0 c.in-Some.ensures.some)

pub returns-then-is_goal : goal.returns-then-is_goal
returns-then-is_goal c =
    let q = c.args.query.now in
    let s = c.loop-place.self in
    let t = c.take.new.self in
    let end = subst (λ (z : Node). IsGoalState q z.state) c.node.ensures (c.is_goal.ensures.0 c.if-is_goal.true) in
    (taken-off q c.args.bucket c.in-Some.place s t c.loop-place.invariant.0 c.in-Some.ensures.some, taken-left q c.args.bucket c.in-Some.place s t c.loop-place.invariant.0 c.in-Some.ensures.some, end)

pub returns-then-has_grown : goal.returns-then-has_grown
returns-then-has_grown c =
    let long = c.loop-place.invariant.1 in
    (omega (arith, c.len.ensures, c.len-before.ensures), c.in_ok-expand.ensures.frontier)

pub loop-place-preserved : goal.loop-place-preserved
loop-place-preserved c =
    let s = c.loop-place.self in
    let t = c.take.new.self in
    let n = c.expand.new.self in
    let g = c.in_ok-expand.ensures.grows in
    let more = g.more in
    let long = c.loop-place.invariant.1 in
    let taken = ap (λ (z : Exploration). length z.nodes) c.in-Some.ensures.some.rest in
    let same : length n.nodes ≡ length t.nodes = omega (arith, c.len.ensures, c.len-before.ensures) in
    let fr = taken-off c.args.query.now c.args.bucket c.in-Some.place s t c.loop-place.invariant.0 c.in-Some.ensures.some in
    (frontier_of_higher_bucket c.args.query.now c.args.bucket (c.args.bucket - 1) None n.nodes (earliest_in n.labels) n.open_list t.open_list c.in_ok-expand.ensures.frontier (g.same same) fr.past, same ∙ taken ∙ long)

pub loop-place-smaller : goal.loop-place-smaller
loop-place-smaller c =
    let t = c.take.new.self in
    let n = c.expand.new.self in
    let g = c.in_ok-expand.ensures.grows in
    let more = g.more in
    let long = c.loop-place.invariant.1 in
    let taken = ap (λ (z : Exploration). length z.nodes) c.in-Some.ensures.some.rest in
    let same : length n.nodes ≡ length t.nodes = omega (arith, c.len.ensures, c.len-before.ensures) in
    let row = ap length (g.same same c.args.bucket) in
    let one = ap length c.in-Some.ensures.some.last ∙ length_push (bucket_of t.open_list c.args.bucket) c.in-Some.place in
    omega arith

pub returns : goal.returns
returns c =
    let s = c.loop-place.self in
    let t = c.take.new.self in
    let w = c.in_default.ensures.none in
    (ap (λ (z : Exploration). length z.nodes) w.rest ∙ c.loop-place.invariant.1, swept-off c.args.query.now c.args.bucket s t c.loop-place.invariant.0 w)
