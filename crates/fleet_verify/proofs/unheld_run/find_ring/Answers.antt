use Rattle.fleet_verify.proofs.Words.{◌≡◌, ◌<◌, ℕ, List, length, refl, ap, sym, ◌∙◌, subst, length-map, IsReadyBy, counts_of, IsBlocked}
use Rattle.fleet_verify.proofs.Waiting.{none_ready, some_blocked}
use Rattle.fleet_verify.proofs.unheld_run.find_ring.Goals as goal

pub ring_by_counts-requires-clause-stuck : goal.ring_by_counts-requires-clause-stuck
ring_by_counts-requires-clause-stuck g c =
    let p = g.P.ProgramView.program c.args.program.now in
    let here = c.args.machine.now.configuration in
    let seen : c.deref.result.now ≡ counts_of here = c.deref.ensures.value ∙ (c.in_ok-counts.ensures ∙ ap counts_of c.agents.ensures) in
    subst (λ (xs : List ℕ). (i : ℕ) → i < length p → IsReadyBy p xs i → ⊥) (sym seen) (none_ready p here c.requires.stuck)

pub ring_by_counts-requires-clause-left : goal.ring_by_counts-requires-clause-left
ring_by_counts-requires-clause-left g c =
    let p = g.P.ProgramView.program c.args.program.now in
    let here = c.args.machine.now.configuration in
    let seen : c.deref.result.now ≡ counts_of here = c.deref.ensures.value ∙ (c.in_ok-counts.ensures ∙ ap counts_of c.agents.ensures) in
    subst (λ (xs : List ℕ). (i : ℕ) × IsBlocked p xs i) (sym seen) (some_blocked p here c.requires.stuck)

pub ring_by_counts-requires-clause-counts : goal.ring_by_counts-requires-clause-counts
ring_by_counts-requires-clause-counts g c =
    let same : length (counts_of c.agents.result.now) ≡ length c.agents.result.now = rw length-map refl in
    ap length c.deref.ensures.value ∙ (ap length c.in_ok-counts.ensures ∙ (same ∙ (ap length c.agents.ensures ∙ c.requires.runs.agents)))

pub ring_by_counts-requires-clause-ranges : goal.ring_by_counts-requires-clause-ranges
ring_by_counts-requires-clause-ranges g c =
    c.requires.ranges
