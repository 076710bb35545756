use Rattle.std.proofs.Common.{◌+◌, ◌-◌, ◌++◌, length, take, refl, ap, ◌∙◌, arith}
use Rattle.std.proofs.lemmas.List.{take_at, drop_at, take-append-le, length-take-le}
use borrow.Rule.Slice.PartMut.{post_of}
use lib.Seq.{take-add}
use Rattle.fleet_text.proofs.row.copy_front.Goals as goal

pub returns-clause-written : goal.returns-clause-written
returns-clause-written c =
    let a = c.args.at in
    let n = c.args.count in
    let xs = c.args.bytes.now in
    let ys = c.copy_from_slice.new.self in
    let after = post_of a (a + 16 - a) xs in
    let front = length-take-le a xs (omega (arith, c.requires.room)) in
    let is = c.copy_from_slice.ensures.after in
    take-add a n (take a xs ++ (ys ++ after))
    ∙ (rw (take_at (take a xs) (ys ++ after) _ front, drop_at (take a xs) (ys ++ after) _ front, take-append-le n ys after (omega (arith, ap length is, c.requires.piece, c.requires.count))) refl)
    ∙ ap (λ l. take a xs ++ take n l) is
