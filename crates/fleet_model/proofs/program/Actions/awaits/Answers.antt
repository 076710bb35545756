use Rattle.std.proofs.Common.{◌≡◌, ◌<◌, ◌∷◌, length, get_or, ap, arith}
use Rattle.fleet_model.specs.declared.geometry.Step.TheVariants.{Dwell}
use Rattle.fleet_model.specs.ActionRows.{steps_in}
use Rattle.fleet_model.proofs.ActionRows.{actions_long, bounds_there, awaits_there}
use Rattle.fleet_model.proofs.program.Actions.awaits.Goals as goal

pub begin_of-begin-requires : goal.begin_of-begin-requires
begin_of-begin-requires c =
    let s = c.self.inside in
    omega (arith, c.requires, c.deref.ensures.len, s.ends.ok.0, c.self.invariant.count, actions_long (steps_in s.codes.items) s.ends.items s.awaits.items c.self.invariant, ap length c.self.view_is)

pub index-requires : goal.index-requires
index-requires c =
    let s = c.self.inside in
    omega (arith, c.requires, s.ends.ok.0, c.self.invariant.count, actions_long (steps_in s.codes.items) s.ends.items s.awaits.items c.self.invariant, ap length c.self.view_is)

pub part_of-requires-clause-rising : goal.part_of-requires-clause-rising
part_of-requires-clause-rising c =
    let s = c.self.inside in
    let within : c.args.k < length (steps_in s.codes.items) = omega (arith, c.requires, actions_long (steps_in s.codes.items) s.ends.items s.awaits.items c.self.invariant, ap length c.self.view_is) in
    let begin : c.begin_of-begin.result ≡ get_or (0 ∷ s.ends.items) c.args.k 0 = rw c.deref.ensures.value at c.begin_of-begin.ensures in
    (bounds_there (steps_in s.codes.items) s.ends.items s.awaits.items c.args.k c.begin_of-begin.result c.index.result.now c.self.invariant within begin c.index.ensures).0

pub part_of-requires-clause-within : goal.part_of-requires-clause-within
part_of-requires-clause-within c =
    let s = c.self.inside in
    let within : c.args.k < length (steps_in s.codes.items) = omega (arith, c.requires, actions_long (steps_in s.codes.items) s.ends.items s.awaits.items c.self.invariant, ap length c.self.view_is) in
    let begin : c.begin_of-begin.result ≡ get_or (0 ∷ s.ends.items) c.args.k 0 = rw c.deref.ensures.value at c.begin_of-begin.ensures in
    rw c.deref-2.ensures.value (bounds_there (steps_in s.codes.items) s.ends.items s.awaits.items c.args.k c.begin_of-begin.result c.index.result.now c.self.invariant within begin c.index.ensures).1

pub returns : goal.returns
returns c =
    let s = c.self.inside in
    let within : c.args.k < length (steps_in s.codes.items) = omega (arith, c.requires, actions_long (steps_in s.codes.items) s.ends.items s.awaits.items c.self.invariant, ap length c.self.view_is) in
    let begin : c.begin_of-begin.result ≡ get_or (0 ∷ s.ends.items) c.args.k 0 = rw c.deref.ensures.value at c.begin_of-begin.ensures in
    rw (c.part_of.ensures, c.deref-2.ensures.value, ← c.self.view_is)
    (awaits_there (steps_in s.codes.items) s.ends.items s.awaits.items c.args.k c.begin_of-begin.result c.index.result.now Dwell c.self.invariant within begin c.index.ensures)
