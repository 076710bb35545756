use Rattle.std.proofs.Common.{◌≡◌, Bool}
use Rattle.std.specs.Prelude.{filter}
use Rattle.std.specs.Fn.{FnReturnsAt}
use Rattle.fleet_grid.proofs.ListLaws.{AreChangedTo}
use Rattle.fleet_grid.proofs.table.retain_in.Given as goal

abbrev pub invariant-loop-list : goal.invariant-loop-list
invariant-loop-list g l = (test : g.row.V.Denot → Bool) → ((x : g.row.V.Denot) (b : Bool) → FnReturnsAt g.F.Fn l.keep x b → b ≡ test x) → AreChangedTo (filter test) l.initial.list-items l.list-items l.list-index
