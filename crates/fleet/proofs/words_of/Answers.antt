use Rattle.std.proofs.Common.{rules}
use Rattle.std.specs.Vec.Iter.{into_iter_items}
use Rattle.std.proofs.lemmas.{Iterator.items_from_collect, Iterator.Adapters.YieldsList-from_vec, Iterator.Adapters.YieldsList-from_skip}
use Rattle.fleet.proofs.words_of.Goals as goal

pub returns : goal.returns
returns c =
    let all = items_from_collect c.collect.result c.collect.ensures.ran
    (YieldsList-from_skip 1 (YieldsList-from_vec (into_iter_items c.in_ok-args.field-0) (search rules) (search rules)) (search rules)) in
    rw c.in_ok-args.was (rw c.in_ok-words.was at all)
