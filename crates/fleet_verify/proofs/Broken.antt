-- What is refused for its order runs badly.
use Rattle.fleet_verify.proofs.Words.{Bool, List, Some, ap, ◌∙◌, slice_get-get_or, Place, Task, Visit, place_of, Program, AreInRange, ComesAfterByChain, AreUnordered, VerifyFault, OutOfMemory, OtherFleet, Start, Goal, AwaitRange, Cyclic, Unordered, HasNumbering, IsFault, IsUnordered}
use Rattle.fleet_verify.specs.declared.fault.VerifyFault.TheVariants.{Step}
use Rattle.fleet_verify.specs.Broken.{MeetUnordered, IsBrokenBy}
use Rattle.fleet_verify.proofs.BreakingHolds.{breaking_made, breaking_conflict}
use Rattle.fleet_verify.proofs.Finish.{ring_never}
use Rattle.fleet_verify.proofs.Listing.{levels_number, as_visit}
use Rattle.fleet_verify.proofs.Unordered.{neighbours_unordered}
use Rattle.fleet_verify.proofs.Stays.{ranges_all}

-- visits that are reported as unordered have no order either way, and their agents meet
meet : (passable : Place → Bool) (tasks : List Task) (p : Program) (q : Place) (v w : Visit) → HasNumbering passable tasks p → IsUnordered ComesAfterByChain p q v w → MeetUnordered p q v w
meet passable tasks p q v w h u =
    let range : AreInRange p = ranges_all p h.before.ranges in
    let pair : AreUnordered p q v w = neighbours_unordered p u.level (levels_number p u.level u.levels) q u.sorted u.listing u.broken.at v w u.broken.here u.broken.next u.broken.breaks in
    let made = breaking_made p h.number h.numbering range v w (as_visit p q v pair.first) (as_visit p q w pair.second) in
    record {
      in_range = range;
      number = h.number;
      numbering = h.numbering;
      unordered = pair;
      holds = made.0;
      breaking = made.1;
      meet = breaking_conflict p h.number h.numbering q v w pair made.0 made.1;
    }

pub broken_by : (passable : Place → Bool) (tasks : List Task) (p : Program) (f : VerifyFault) → IsFault passable tasks p f → IsBrokenBy p f
broken_by passable tasks p OutOfMemory h = tt
broken_by passable tasks p OtherFleet h = tt
broken_by passable tasks p (Start i) h = tt
broken_by passable tasks p (Goal i) h = tt
broken_by passable tasks p (Step i k) h = tt
broken_by passable tasks p (AwaitRange i k) h = tt
broken_by passable tasks p (Cyclic ring) h = λ holds t a (k, l, e). ring_never p ring.items (h.1).around holds t k a (slice_get-get_or ring.items k a l ∙ ap Some e)
broken_by passable tasks p (Unordered c v w) h = meet passable tasks p (place_of c) v w h.0 h.1
