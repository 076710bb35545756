use Rattle.std.proofs.Common.{ap, inl, inr, refl}
use Rattle.fleet_cli.proofs.RunLemmas.{nothing_written}
use Rattle.fleet_cli.proofs.print_commands.do_check.Goals as goal

pub returns-in-Err-check : goal.returns-in-Err-check
returns-in-Err-check g c = inr (_, refl, (_, rw c.deref.ensures.value at c.in-Ok.ensures.found, c.in-Err-check.ensures.fault), nothing_written _ c.requires)

pub returns : goal.returns
returns g c =
    let made = c.in-Ok-check.ensures.checked in
    let asked = rw made at c.in_ok-asked.ensures in
    let text = rw c.deref.ensures.value at c.in-Ok.ensures.found in
    inl (_, _, (text, c.in-Ok-check.ensures.right), asked, c.hand_on.ensures _ _ (rw (c.plan.ensures.value, ap (λ k. k.plan) made) at c.put_check-printed.ensures))
