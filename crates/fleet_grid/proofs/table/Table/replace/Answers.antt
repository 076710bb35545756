use Rattle.std.proofs.Common.{◌∙◌, ◌/◌, refl}
use Rattle.std.specs.Vec.{with_item}
use Rattle.fleet_grid.proofs.Pages.{page-exchanged, page-kept_if_failed, value-read}
use Rattle.fleet_grid.proofs.table.Table.replace.Goals as goal
use Rattle.fleet_grid.specs.declared.table.TheConstants.{PAGE}

pub returns-clause-before : goal.returns-clause-before
returns-clause-before g c = c.in_ok-before.ensures.before ∙ value-read c.args.self.now c.extend_to.new.pages.items c.args.number c.index_mut.result.now c.in_ok-extend_to.ensures.same c.in_ok-extend_to.ensures.room c.index_mut.ensures.value

pub returns-clause-set : goal.returns-clause-set
returns-clause-set g c = page-exchanged _ _ c.extend_to.new.pages.items c.args.number c.args.value c.index_mut.result.now c.replace_in.new.page c.in_ok-extend_to.ensures.same c.in_ok-extend_to.ensures.room c.index_mut.ensures.value refl refl c.in_ok-before.ensures.here c.in_ok-before.ensures.others

pub returns-in_err-before-clause-kept : goal.returns-in_err-before-clause-kept
returns-in_err-before-clause-kept g c = page-kept_if_failed c.from_residual-in_err-before.result c.args.self.now (record { alloc = c.args.self.now.alloc; blank = c.args.self.now.blank; pages = with_item c.extend_to.new.pages (c.args.number / PAGE) c.replace_in.new.page }) c.extend_to.new.pages.items c.args.number c.index_mut.result.now c.replace_in.new.page c.in_ok-extend_to.ensures.same c.in_ok-extend_to.ensures.room c.index_mut.ensures.value refl refl c.in_err-before.ensures.kept
