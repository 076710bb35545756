use Rattle.std.proofs.Common.{arith}
use Rattle.std.proofs.lemmas.Simd.{get_or-put_chunk_below, get_or-put_chunk_above}
use Rattle.fleet_needs.proofs.Lanes.{joined_lane, joined_long}
use Rattle.fleet_needs.proofs.counts.join_lane.Goals as goal

pub returns-clause-joined : goal.returns-clause-joined
returns-clause-joined c = λ k above below. joined_lane c.args.row.now c.args.other.now c.args.from c.requires.same c.requires.lane k above below

pub returns-clause-before : goal.returns-clause-before
returns-clause-before c = λ k l. get_or-put_chunk_below c.args.from c.args.row.now _ k 0 l

pub returns-clause-after : goal.returns-clause-after
returns-clause-after c = λ k l.
    get_or-put_chunk_above c.args.from c.args.row.now _ k 0 (omega (arith, joined_long c.args.row.now c.args.other.now c.args.from c.requires.same c.requires.lane))
