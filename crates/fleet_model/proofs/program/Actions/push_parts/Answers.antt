use Rattle.std.proofs.Common.{◌≡◌, ◌+◌, ◌++◌, ◌∷◌, [], length, ap, ◌∙◌, arith}
use Rattle.fleet_model.specs.ActionRows.{steps_in}
use Rattle.fleet_model.proofs.ActionRows.{pushed, code_more}
use Rattle.fleet_model.proofs.program.Actions.push_parts.Goals as goal

pub invariant_of-self-2 : goal.invariant_of-self-2
invariant_of-self-2 c =
    let s = c.self.inside in
    let more = c.args.awaits.now in
    let at_end = c.in-Ok.ensures.1 in
    let is : c.in-Ok.end ≡ length s.awaits.items + length more = omega (arith, at_end, c.len.ensures, s.awaits.ok.0) in
    (pushed (steps_in s.codes.items) (steps_in c.push_reserved.new.self.items) s.ends.items c.push_reserved-2.new.self.items s.awaits.items c.extend_from_slice.new.self.items
    c.args.step more c.in-Ok.end c.self.invariant is
    (code_more s.codes.items c.push_reserved.new.self.items c.of.result c.args.step
    (c.push_reserved.ensures.items ∙ ap (λ xs. xs ++ c.of.result ∷ []) c.reserve.ensures.items) c.of.ensures)
    (c.push_reserved-2.ensures.items ∙ ap (λ xs. xs ++ c.in-Ok.end ∷ []) c.reserve-2.ensures.items)
    c.in_ok-extend_from_slice.ensures.items).0

pub returns-clause-ok : goal.returns-clause-ok
returns-clause-ok c =
    let s = c.self.inside in
    let more = c.args.awaits.now in
    let at_end = c.in-Ok.ensures.1 in
    let is : c.in-Ok.end ≡ length s.awaits.items + length more = omega (arith, at_end, c.len.ensures, s.awaits.ok.0) in
    (pushed (steps_in s.codes.items) (steps_in c.push_reserved.new.self.items) s.ends.items c.push_reserved-2.new.self.items s.awaits.items c.extend_from_slice.new.self.items
    c.args.step more c.in-Ok.end c.self.invariant is
    (code_more s.codes.items c.push_reserved.new.self.items c.of.result c.args.step
    (c.push_reserved.ensures.items ∙ ap (λ xs. xs ++ c.of.result ∷ []) c.reserve.ensures.items) c.of.ensures)
    (c.push_reserved-2.ensures.items ∙ ap (λ xs. xs ++ c.in-Ok.end ∷ []) c.reserve-2.ensures.items)
    c.in_ok-extend_from_slice.ensures.items).1
    ∙ (λ t. c.self.view_is t ++ record { step = c.args.step; awaits = more } ∷ [])
