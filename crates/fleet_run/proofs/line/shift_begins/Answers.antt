use Rattle.fleet_run.proofs.Words.{◌≡◌, ◌≢◌, ◌<◌, ◌+◌, ◌-◌, ℕ, ◌∙◌, length, set, arith, below_more, get_or-set_same, get_or-set_other, get_or}
use Rattle.fleet_run.proofs.line.shift_begins.Goals as goal

pub loop-k-preserved : goal.loop-k-preserved
loop-k-preserved c =
    let k = c.loop-k.k in
    let begins = c.loop-k.begins in
    let before = c.loop-k.invariant in
    let v = get_or begins k 0 + c.args.to - c.args.from in
    let nothing : ℕ = 0 in
    let inside : k < length begins = omega arith in
    let here = before.rest k (omega arith) in
    let room = c.requires.room k (omega arith) in
    record {
      done = below_more (λ (j : ℕ). get_or (set begins k v) j 0 + c.args.from ≡ get_or c.args.begins.now j 0 + c.args.to) k
          (λ j lt. let ne : j ≢ k = omega arith in rw (get_or-set_other begins k j v nothing ne) (before.done j lt))
          (rw (get_or-set_same begins k v nothing inside) (omega (arith, here, room)));
      rest = λ j le. let ne : j ≢ k = omega arith in get_or-set_other begins k j v nothing ne ∙ before.rest j (omega arith);
    }
