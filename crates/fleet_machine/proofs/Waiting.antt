-- The least counts for which the agents in lists wait.
use Rattle.std.proofs.Common.{◌≡◌, ◌<◌, ◌≤◌, ◌*◌, ℕ, List, length, set, Option, Some, None, refl, inl, inr, arith, get_or-set_same, get_or-set_other, length-set}
use Rattle.std.specs.Prelude.{option_map, min}
use Rattle.std.proofs.Math.Nat.{min-le_left, min-le_right}
use Rattle.std.proofs.lemmas.Bool.{cases_eq, cases_lt}
use Rattle.std.proofs.lemmas.List.{get_or_past}
use Rattle.fleet_model.specs.declared.program.Await.{Await}
use Rattle.fleet_model.specs.Program.{Program}
use Rattle.fleet_model.specs.Machine.{Configuration}
use Rattle.fleet_machine.specs.Machine.{IsLacked, IsHome, least_of, list_of, agent_of, lowered}

-- no least count rises where one agent more waits
pub lowered_le : (least : List ℕ) (lacked : Option Await) (j : ℕ) → least_of (lowered least lacked) j ≤ least_of least j
lowered_le least None j = omega arith
lowered_le least (Some w) j =
    let new = min (least_of least (list_of w)) w.count in
    let nothing : ℕ = 0 in
    elim (cases_eq j (list_of w)) [
      | inl same ↦ elim (cases_lt (list_of w) (length least)) [
        | inl lt ↦ rw (same, get_or-set_same least (list_of w) new nothing lt) (min-le_left (least_of least (list_of w)) w.count)
        | inr past ↦ rw (get_or_past (set least (list_of w) new) j nothing (omega (arith, same, past, length-set least (list_of w) new))) (omega arith)
      ]
      | inr other ↦ rw (get_or-set_other least (list_of w) j new nothing other) (omega arith)
    ]

-- it waits for the least count of its list or for more
lowered_enough : (least : List ℕ) (w : Await) → least_of (lowered least (Some w)) (list_of w) ≤ w.count
lowered_enough least w =
    let new = min (least_of least (list_of w)) w.count in
    let nothing : ℕ = 0 in
    elim (cases_lt (list_of w) (length least)) [
      | inl lt ↦ rw (get_or-set_same least (list_of w) new nothing lt) (min-le_right (least_of least (list_of w)) w.count)
      | inr past ↦ rw (get_or_past (set least (list_of w) new) (list_of w) nothing (omega (arith, past, length-set least (list_of w) new))) (omega arith)
    ]

pub home_if_lacked : (p : Program) (c : Configuration) (least : List ℕ) (i : ℕ) (lacked : Option Await) → IsLacked p c i lacked
    → IsHome p c (lowered least lacked) i (option_map list_of lacked)
home_if_lacked p c least i None h = h
home_if_lacked p c least i (Some w) h = record { awaited = w; is_unmet = h; list = refl; late = lowered_enough least w }

-- who waits in a list waits there still if the least count falls
pub home_if_lower : (p : Program) (c : Configuration) (least new : List ℕ) (i : ℕ) (h : Option ℕ) → ((j : ℕ) → least_of new j ≤ least_of least j)
    → IsHome p c least i h → IsHome p c new i h
home_if_lower p c least new i None lower home = home
home_if_lower p c least new i (Some j) lower home =
    record { awaited = home.awaited; is_unmet = home.is_unmet; list = home.list; late = omega (arith, lower j, home.late) }

pub long_lowered : (least : List ℕ) (lacked : Option Await) → length (lowered least lacked) ≡ length least
long_lowered least None = refl
long_lowered least (Some w) = length-set least (list_of w) (min (least_of least (list_of w)) w.count)

-- a list's agent is the one that is awaited
pub agent_of_list : (w : Await) → agent_of (list_of w) ≡ w.agent
agent_of_list w = omega arith

pub list_within : (w : Await) (n : ℕ) → w.agent < n → list_of w < n * 8
list_within w n lt = omega (arith, lt)
