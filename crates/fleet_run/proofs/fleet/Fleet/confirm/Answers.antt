use Rattle.fleet_run.proofs.Words.{◌≡◌, ℕ, ap, not, subst, sym, ◌∙◌, Configuration, is_ready, moved_in, tick, FleetState, IsTrue, ◌<◌, length, awaiting_in, LooksAt, flag_of}
use Rattle.fleet_model.specs.Claims.{KeepsOrder}
use Rattle.fleet_machine.specs.Confirmed.{all_but}
use Rattle.fleet_run.proofs.fleet.Fleet.confirm.Goals as goal

pub returns-clause-carried_out : goal.returns-clause-carried_out
returns-clause-carried_out g c =
    let running = c.self.invariant in
    let parts = c.self.inside.accepted in
    let p = g.P.ProgramView.program parts.program in
    let held = all_but (flag_of c.args.done.now) in
    let before = c.self.inside.machine.configuration in
    let same = c.program-2.ensures.program in
    let after : c.carry_out.new.self.configuration ≡ tick p held before = c.carry_out.ensures.after ∙ ap (λ q. tick (g.P.ProgramView.program q) held before) same in
    let State : Configuration → FleetState _ = λ d. record { accepted = parts; configuration = d; looked = c.carry_out.new.self.looked } in
    rw (← c.self.view_is) (record {
      after = ap State after;
      looks = subst (λ q. LooksAt (moved_in (g.P.ProgramView.program q) held before) (awaiting_in (g.P.ProgramView.program q) held before) c.self.inside.machine.looked c.carry_out.new.self.looked) same c.carry_out.ensures.looked;
      sent = subst (λ q. (i : ℕ) → i < length (g.P.ProgramView.program q) → IsTrue (flag_of c.args.done.now i) → IsTrue (is_ready (g.P.ProgramView.program q) before i)) c.program.ensures.program c.in_default.ensures;
      kept = λ i inside not_done. subst (λ d. KeepsOrder p before d i) (sym after) (c.ready_moves_are_apart.ensures.kept p before held i running.reached inside (ap not not_done));
    })
