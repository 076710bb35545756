use Rattle.std.proofs.Common.{ℕ, refl, inr, arith}
use Rattle.fleet_model.specs.declared.program.ActionId.{ActionId}
use Rattle.fleet_model.specs.Chain.{IsNumbering}
use Rattle.fleet_example.specs.Programs.{deadlock, is_on_open_map, nth_action}
use Rattle.fleet_example.proofs.Computed.{action_is, right_is}
use Rattle.fleet_example.proofs.programs.deadlock_is_refused.Goals as goal

-- each of the first actions would have the smaller number
not_numbered : (number : ActionId → ℕ) → IsNumbering deadlock number → ⊥
not_numbered number is =
    let here = action_is deadlock (nth_action 0 1) refl in
    let there = action_is deadlock (nth_action 1 1) refl in
    omega (arith, is.rising (nth_action 0 1) (nth_action 1 1) here there (inr (0, omega arith, refl)), is.rising (nth_action 1 1) (nth_action 0 1) there here (inr (0, omega arith, refl)))

pub returns-clause-right : goal.returns-clause-right
returns-clause-right c = right_is (is_on_open_map 4 1) deadlock refl

pub returns-clause-not_numbered : goal.returns-clause-not_numbered
returns-clause-not_numbered c = not_numbered

pub returns-clause-refused : goal.returns-clause-refused
returns-clause-refused c = record {
  by_await = λ passable tasks a. not_numbered a.numbering.0 a.numbering.1;
  by_chain = λ passable tasks a. not_numbered a.numbering.0 a.numbering.1;
}
