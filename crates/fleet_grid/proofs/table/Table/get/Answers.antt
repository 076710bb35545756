use Rattle.std.proofs.Common.{sym}
use Rattle.std.proofs.lemmas.Bool.{ltb-true, ltb-false}
use Rattle.fleet_grid.proofs.Pages.{value-found, value-past, page-past}
use Rattle.fleet_grid.proofs.table.Table.get.Goals as goal

pub returns-in-Some-get : goal.returns-in-Some-get
returns-in-Some-get g c =
    let page = c.in-Some.ensures.lookup in
    let value = c.in-Some-get.ensures.lookup in
    let within = rw c.deref.ensures.value at (ltb-true _ _ (sym page.0)) in
    let inside = rw c.deref-2.ensures.value at (ltb-true _ _ (sym value.0)) in
    value-found c.args.self.now c.args.number c.in-Some.page.now c.in-Some-get.value.now within (rw c.deref.ensures.value at page.1) inside (rw c.deref-2.ensures.value at value.1)

pub returns-in-None : goal.returns-in-None
returns-in-None g c =
    let page = c.in-Some.ensures.lookup in
    let within = rw c.deref.ensures.value at (ltb-true _ _ (sym page.0)) in
    let past = rw c.deref-2.ensures.value at (ltb-false _ _ (sym c.in-None.ensures.lookup.0)) in
    value-past c.args.self.now c.args.number c.in-Some.page.now within (rw c.deref.ensures.value at page.1) past

pub returns-in_default : goal.returns-in_default
returns-in_default g c = page-past c.args.self.now c.args.number (rw c.deref.ensures.value at (ltb-false _ _ (sym c.in_default.ensures.lookup.0)))
