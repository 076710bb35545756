use Rattle.fleet_needs.proofs.Words.{◌≡◌, ◌*◌, ◌<◌, refl, arith, length, slot_of}
use Rattle.fleet_needs.proofs.{Counting.count_read, Counting.row_ends}
use Rattle.fleet_needs.proofs.schedule.Schedule.place.Goals as goal

pub returns : goal.returns
returns g c =
    let s = c.args.self.now in
    let outs = s.outs.items in
    let within : c.args.r < length outs = omega (arith, c.requires.within, c.requires.schedule.all) in
    let read : c.index.result.now ≡ slot_of s c.args.r = count_read outs c.args.r c.args.r c.index.result.now refl within c.index.ensures in
    let is : c.index.result.now * c.from.result ≡ slot_of s c.args.r * c.args.width = (λ t. read t * c.from.ensures t) in
    let ends = row_ends c.args.width (slot_of s c.args.r) s.slots (c.requires.schedule.within c.args.r c.requires.within) in
    record { is = is; within = omega (arith, is, ends) }
