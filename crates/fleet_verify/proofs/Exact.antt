-- Accepted programs are those that run well under every list of holds.
use Rattle.fleet_verify.proofs.Words.{◌≡◌, ◌≢◌, ℕ, Bool, List, [], length, sym, ◌∙◌, inl, inr, ◌⊎◌, cases_eq, cases_order, Place, ActionId, Visit, Program, AreInRange, Holds, place_at, run, Reaches, IsNumbering, IsVisitOf, ComesAfterByChain, entering, leaving, Task, IsRight, IsAcceptedBy, AreUnordered, AreBreakingHolds, RunsWell}
use Rattle.fleet_verify.proofs.Decide.{Reaches-dec}
use Rattle.fleet_verify.proofs.BreakingHolds.{breaking_conflict, breaking_made}
use Rattle.fleet_verify.proofs.Listing.{as_visit, after_reaches}
use Rattle.fleet_verify.proofs.Finish.{done_after, run_numbers}
use Rattle.fleet_verify.proofs.FreeRun.{runs_free}
use Rattle.fleet_verify.proofs.RunCounts.{longest_exists, finish_exists}
use Rattle.fleet_verify.proofs.Sorted.{ordered_listing}

-- visits without an order would meet
meet : (p : Program) (number : ActionId → ℕ) → IsNumbering p number → AreInRange p → RunsWell p → (q : Place) (v w : Visit) → AreUnordered p q v w → ⊥
meet p number s range runs q v w u = go (breaking_made p number s range v w (as_visit p q v u.first) (as_visit p q w u.second))
  where
    go : ((h : Holds) × AreBreakingHolds p v w h) → ⊥
    go (h, b) =
        let both : (place_at (run p h (length h)) v.agent ≡ q) × (place_at (run p h (length h)) w.agent ≡ q) = breaking_conflict p number s q v w u h b in
        runs.apart h (length h) v.agent w.agent u.first.agent u.second.agent (record { apart = u.apart; same = both.0 ∙ sym both.1 })

-- so any two visits of a place have an order
ordered : (p : Program) (number : ActionId → ℕ) → IsNumbering p number → AreInRange p → RunsWell p → (q : Place) (v w : Visit) → IsVisitOf p q v → IsVisitOf p q w → v ≢ w → Reaches p (leaving p v) (entering w) ⊎ Reaches p (leaving p w) (entering v)
ordered p number s range runs q v w h k n =
    elim (Reaches-dec p number s (leaving p v) (entering w)) [
      | yes r ↦ inl r
      | no forth ↦ (elim (Reaches-dec p number s (leaving p w) (entering v)) [
        | yes r ↦ inr r
        | no back ↦ (elim (cases_eq v.agent w.agent) [
          | inr apart ↦ absurd (meet p number s range runs q v w (record { first = h; second = k; apart = apart; forth = forth; back = back }))
          | inl e ↦ (elim (cases_order v.position w.position) [
            | inl f ↦ absurd (n (λ i. record { agent = e i; position = f i }))
            | inr (inl l) ↦ inl (after_reaches p q v w k (inl (e, l)))
            | inr (inr l) ↦ inr (after_reaches p q w v h (inl (sym e, l)))
          ])
        ])
      ])
    ]

pub accepted_runs : (passable : Place → Bool) (tasks : List Task) (p : Program) → IsAcceptedBy ComesAfterByChain passable tasks p → RunsWell p
accepted_runs passable tasks p a = record {
  apart = λ holds. (runs_free p holds a.orderly).vertex;
  finishes = λ holds. let l = longest_exists p a.right.in_range a.numbering.0 a.numbering.1 in finish_exists p holds a.right.in_range l.0 l.1.most;
}

pub runs_accepted : (passable : Place → Bool) (tasks : List Task) (p : Program) → IsRight passable tasks p → RunsWell p → IsAcceptedBy ComesAfterByChain passable tasks p
runs_accepted passable tasks p r w = record {
  right = r;
  numbering = (number, numbers);
  orderly = λ q. ordered_listing p number numbers q (ordered p number numbers r.in_range w q);
}
  where
    f : ℕ
    f = (w.finishes []).0

    number : ActionId → ℕ
    number = done_after p [] f

    numbers : IsNumbering p number
    numbers = run_numbers p [] f ((w.finishes []).1).holds
