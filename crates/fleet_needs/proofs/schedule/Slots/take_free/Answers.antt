use Rattle.fleet_needs.proofs.Words.{arith, refl, sym}
use Rattle.fleet_needs.proofs.Slotting.{free_new}
use Rattle.fleet_needs.proofs.schedule.Slots.take_free.Goals as goal

pub returns : goal.returns
returns c = rw (sym c.self.view_is) (free_new _ _ c.len-slot.result (omega (arith, c.len-slot.ensures)) c.in_ok-push.ensures.items refl)
