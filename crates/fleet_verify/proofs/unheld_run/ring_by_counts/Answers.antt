use Rattle.fleet_verify.proofs.unheld_run.ring_by_counts.Goals as goal

pub least_on_ring-first-requires : goal.least_on_ring-first-requires
least_on_ring-first-requires g c = record {
  counts = c.requires.counts;
  ranges = c.requires.ranges;
  wants = rw c.deref.ensures.value c.in_ok-wants.ensures;
  left = c.requires.left;
}

pub ring_from-requires : goal.ring_from-requires
ring_from-requires g c = record {
  counts = c.requires.counts;
  ranges = c.requires.ranges;
  wants = rw c.deref-2.ensures.value c.in_ok-wants.ensures;
  first = rw c.deref-2.ensures.value (rw c.deref.ensures.value at c.least_on_ring-first.ensures);
}
