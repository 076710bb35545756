use Rattle.std.proofs.Common.{◌≡◌, ◌+◌, [], ◌∷◌, length, subst, arith, rules}
use Rattle.std.proofs.lemmas.List.{length-append}
use Rattle.fleet_grid.specs.Lists.{IsNumbered}
use Rattle.fleet_grid.proofs.ListLaws.{added-unused, added-begun}
use Rattle.fleet_grid.proofs.table.add.Goals as goal

pub returns-in_err-set_number : goal.returns-in_err-set_number
returns-in_err-set_number g c =
    let added = added-unused c.args.numbers.now.items c.args.lists.now.items c.requires.lists c.new.result c.new.ensures.items c.set_number.new.numbers.items c.in_err-set_number.ensures.err in
    rw c.in_ok-push.ensures.items (record { own = added.own; within = search rules; place = search rules; same = added.same })

pub returns : goal.returns
returns g c =
    let long : c.len-place.result + 1 ≡ length c.args.lists.now.items + 1 = omega (arith, c.len-place.ensures) in
    let put = subst (IsNumbered c.args.numbers.now.items c.set_number.new.numbers.items c.args.key) long c.in_ok-set_number.ensures.ok in
    let added = added-begun c.args.numbers.now.items c.args.lists.now.items c.requires.lists c.new.result c.new.ensures.items c.args.key c.requires.none c.set_number.new.numbers.items put in
    rw c.in_ok-push.ensures.items (record { own = added.own; within = omega (arith, long, length-append c.args.lists.now.items (c.new.result ∷ [])); place = c.in_ok-set_number.ensures.ok.here; same = added.same })
