use Rattle.fleet_run.proofs.Words.{◌∙◌, refl, arith, length-set, standing_at}
use Rattle.fleet_run.proofs.Lines.{one_copied, all_copied}
use Rattle.fleet_run.proofs.line.copy_places.Goals as goal

pub loop-i-preserved : goal.loop-i-preserved
loop-i-preserved c =
    let before = c.loop-i.invariant in
    let q = (standing_at c.args.rows.now c.loop-i.i).place in
    record {
      long = length-set c.loop-i.places c.loop-i.i q ∙ before.long;
      copied = one_copied c.args.rows.now c.loop-i.places c.loop-i.i q (omega (arith, before.long)) refl before.copied;
    }

pub returns : goal.returns
returns c =
    all_copied c.args.rows.now c.loop-i.places c.loop-i.invariant.long (λ k lt. c.loop-i.invariant.copied k (omega arith))
