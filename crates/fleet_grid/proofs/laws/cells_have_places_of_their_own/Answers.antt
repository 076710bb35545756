use Rattle.std.proofs.Common.{◌≡◌, ℕ, ◌/◌, ◌%◌, sym, ap, ◌∙◌}
use Rattle.std.proofs.lemmas.Nat.{div-mul-add, mod-mul-add}
use Rattle.fleet_model.specs.declared.geometry.Cell.{Cell}
use Rattle.fleet_grid.proofs.laws.cells_have_places_of_their_own.Goals as goal

pub returns : goal.returns
returns c = λ g a b in_row in_row_too same.
    let row : a.y ≡ b.y = sym (div-mul-add a.y g.width a.x in_row) ∙ ap (λ n. n / g.width) same ∙ div-mul-add b.y g.width b.x in_row_too in
    let column : a.x ≡ b.x = sym (mod-mul-add a.y g.width a.x in_row) ∙ ap (λ n. n % g.width) same ∙ mod-mul-add b.y g.width b.x in_row_too in
    let made : ℕ → ℕ → Cell = λ x y. record { x = x; y = y } in
    ap (λ x. made x a.y) column ∙ ap (λ y. made b.x y) row
