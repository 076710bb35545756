use Rattle.fleet_verify.proofs.Words.{arith, err_from_is_err_and, MAX_AGENTS, ◌≡◌, ℕ, ◌≤◌, false, take, replicate, ap, ◌∙◌, inl, inr, cases_lt, take-replicate, get_or-replicate, get_or_past, length-replicate, flag_of}
use Rattle.fleet_verify.proofs.unheld_run.run_unheld.Goals as goal

-- a row without flags
none_flagged : (n m i : ℕ) → n ≤ m → flag_of (take n (replicate m false)) i ≡ false
none_flagged n m i fits =
    ap (λ flags. flag_of flags i) (take-replicate n m false fits)
    ∙ elim (cases_lt i n) [
      | inl l ↦ get_or-replicate n i false false l
      | inr l ↦ get_or_past (replicate n false) i false (omega (arith, length-replicate n false))
    ]

pub run_on-requires-clause-nobody : goal.run_on-requires-clause-nobody
run_on-requires-clause-nobody g c = λ i. none_flagged c.agents.result MAX_AGENTS i (omega (arith, c.agents.ensures.count, c.agents.ensures.well_formed.few_agents))

pub add_starts-requires : goal.add_starts-requires
add_starts-requires g c = record { start = c.requires.machine; none = c.requires.none }

pub run_on-requires-clause-start : goal.run_on-requires-clause-start
run_on-requires-clause-start g c = c.requires.machine

pub returns-in_err-add_starts : goal.returns-in_err-add_starts
returns-in_err-add_starts g c =
    let e = err_from_is_err_and c.from_residual.result c.from_residual.ensures.1 in
    rw (e.1, e.2) c.in_err-add_starts.ensures.stop

pub returns-in_err-run : goal.returns-in_err-run
returns-in_err-run g c =
    let e = err_from_is_err_and c.from_residual-in_err-run.result c.from_residual-in_err-run.ensures.1 in
    rw (e.1, e.2) c.in_err-run.ensures

pub returns : goal.returns
returns g c =
    c.in_ok-run.ensures
