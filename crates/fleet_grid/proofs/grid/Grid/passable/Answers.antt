use Rattle.std.proofs.Common.{◌+◌, ◌*◌, ◌/◌, ◌%◌, ◌^◌, ap, sym, ◌∙◌, eqb, inl, inr}
use Rattle.std.proofs.lemmas.List.{get_or_read}
use Rattle.fleet_grid.specs.Stored.{byte_count}
use Rattle.fleet_grid.proofs.StoredLaws.{stored_cell, byte_within, off_map, is_ground_of}
use Rattle.fleet_grid.proofs.grid.Grid.passable.Goals as goal
use Rattle.fleet_grid.proofs.grid.Grid.passable.Goals.{then-is_right_of_map-via-then-is_right_of_map, then-is_right_of_map-via-else-is_right_of_map+then-is_below_map}

pub returns-then-is_right_of_map-clause-value : goal.returns-then-is_right_of_map-clause-value
returns-then-is_right_of_map-clause-value c =
    let is_ground = is_ground_of _ _ _ _ c.self.invariant.2 c.self.invariant.0 c.self.invariant.1 in
    rw (← c.self.view_is) (sym (off_map _ c.args.cell.x c.args.cell.y is_ground (elim c.then-is_right_of_map.branch [
      | then-is_right_of_map-via-then-is_right_of_map w ↦ inl w.if-is_right_of_map.true
      | then-is_right_of_map-via-else-is_right_of_map+then-is_below_map w ↦ inr w.if-is_below_map.true
    ])))

pub returns-clause-value : goal.returns-clause-value
returns-clause-value c =
    let i = c.self.inside in
    let cell = c.args.cell in
    let stored = c.self.invariant.2 in
    let place = cell.y * byte_count i.width + cell.x / 8 in
    let read = rw (c.from.ensures, c.byte_count.ensures, c.from-2.ensures, c.from-3.ensures) at c.index.ensures in
    let byte = get_or_read i.cells.bytes.items place c.index.result.now (byte_within _ _ _ _ stored cell.x cell.y c.if-is_right_of_map.false c.if-is_below_map.false) read 0 in
    rw (← c.self.view_is) (c.is_set.ensures ∙ ap (λ b. eqb (b / 2 ^ (cell.x % 8) % 2) 1) byte ∙ sym (stored_cell _ _ _ _ stored cell.x cell.y c.if-is_right_of_map.false c.if-is_below_map.false))
