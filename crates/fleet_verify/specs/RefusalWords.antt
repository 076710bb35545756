-- The line of a program that is not accepted.
use Rattle.std.specs.Prelude.{ℕ, Bool, true, false, List, [], ◌∷◌, map, codes, decimal}
use Rattle.fleet_text.specs.Refusals.{memory_words, named, named_at, named_by}
use Rattle.fleet_text.specs.Words.{pair_text, numbered_text}
use Rattle.fleet_model.specs.declared.geometry.Cell.{Cell}
use Rattle.fleet_model.specs.declared.program.ActionId.{ActionId}
use Rattle.fleet_model.specs.declared.program.Visit.{Visit}
use Rattle.fleet_verify.specs.declared.fault.VerifyFault.{VerifyFault}
use Rattle.fleet_verify.specs.declared.fault.VerifyFault.TheVariants as v

-- an action as `agent:number`
abbrev pub action_text : ActionId → List ℕ
action_text a = numbered_text a.agent a.number

-- a visit as `agent:number`
abbrev pub visit_text : Visit → List ℕ
visit_text visit = numbered_text visit.agent visit.position

-- two visits of a cell without order
abbrev pub unordered_words : Cell → Visit → Visit → List (List ℕ)
unordered_words cell first second =
    codes "verify" ∷ decimal 8 ∷ codes "Unordered" ∷ codes "cell" ∷ pair_text cell.x cell.y ∷ codes "first" ∷ visit_text first ∷ codes "second" ∷ visit_text second ∷ []

-- the words of the line of a program that is not accepted
abbrev pub verify_words : VerifyFault → List (List ℕ)
verify_words v.OutOfMemory = memory_words
verify_words v.OtherFleet = named (codes "verify") 2 (codes "OtherFleet")
verify_words (v.Start agent) = named_at (codes "verify") 3 (codes "Start") (codes "agent") agent
verify_words (v.Goal agent) = named_at (codes "verify") 4 (codes "Goal") (codes "agent") agent
verify_words (v.Step agent action) = named_by (codes "verify") 5 (codes "Step") (codes "agent") agent (codes "action") action
verify_words (v.AwaitRange agent action) = named_by (codes "verify") 6 (codes "AwaitRange") (codes "agent") agent (codes "action") action
verify_words (v.Cyclic ring) = codes "verify" ∷ decimal 7 ∷ codes "Cyclic" ∷ map action_text ring.items
verify_words (v.Unordered cell first second) = unordered_words cell first second

-- whether memory failed
abbrev pub is_verify_failure : VerifyFault → Bool
is_verify_failure v.OutOfMemory = true
is_verify_failure _ = false
