use Rattle.std.proofs.lemmas.Grind.{common_steps}
use Rattle.fleet_needs.proofs.Words.{◌≡◌, ℕ, ◌+◌, List, ap, arith, length, length-map, subst, sym, ActionId, AreListedTo, action_of_key, named_in}
use Rattle.fleet_needs.proofs.schedule.Joins.listed.Goals as goal

pub list-requires-clause-within : goal.list-requires-clause-within
list-requires-clause-within g c = omega (arith, ap (λ (xs : List ActionId). length xs) c.loop-n.invariant.same, c.loop-n-test.true, c.len-count.ensures, length-map c.args.keys.items action_of_key)

pub list-requires-clause-listed : goal.list-requires-clause-listed
list-requires-clause-listed g c = subst (λ (rows : List ActionId). AreListedTo (g.P.ProgramView.program c.args.program.now) rows c.args.standing.now c.loop-n.n c.loop-n.joins) (sym c.loop-n.invariant.same) c.loop-n.invariant

pub loop-n-preserved : goal.loop-n-preserved
loop-n-preserved g c = subst (λ (rows : List ActionId). AreListedTo (g.P.ProgramView.program c.args.program.now) rows c.args.standing.now (c.loop-n.n + 1) c.list.new.self) c.loop-n.invariant.same c.in_ok-list.ensures

pub returns : goal.returns
returns g c =
    let all : c.loop-n.n ≡ length (named_in c.args.keys) = omega (arith, c.loop-n-test.false, c.loop-n.auto.n-end, c.len-count.ensures, length-map c.args.keys.items action_of_key) in
    subst (λ (n : ℕ). AreListedTo (g.P.ProgramView.program c.args.program.now) (named_in c.args.keys) c.args.standing.now n c.loop-n.joins) all c.loop-n.invariant

pub loop-n-init : goal.loop-n-init
loop-n-init g c = grind (arith, common_steps)
