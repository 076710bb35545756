use Rattle.fleet_code.proofs.Words.{◌≡◌, ◌∙◌, ◌↔◌, IsTrue, ap, subst, sym, arith, Ok, Program, NeverStays, err_from_is_err_and, SpellsIn, program_in, program_at}
use Rattle.fleet_code.proofs.InPlace.{view_is, program_found}
use Rattle.fleet_code.proofs.Versions.{program_takes_at, program_again_at, refused_spells_nothing, is_first_at}
use Rattle.fleet_code.proofs.code_view.view.Goals as goal

pub returns-in_err-parts-clause-only : goal.returns-in_err-parts-clause-only
returns-in_err-parts-clause-only c =
    λ p spells.
    let q = err_from_is_err_and c.from_residual.result c.from_residual.ensures.1 in
    rw (q.1, q.2) (λ other. sym (program_again_at c.args.bytes.now p spells) ∙ (rw c.version_of-version.ensures at (c.in_err-parts.ensures other)))

pub returns-in_err-parts-clause-fault : goal.returns-in_err-parts-clause-fault
returns-in_err-parts-clause-fault c =
    let q = err_from_is_err_and c.from_residual.result c.from_residual.ensures.1 in
    rw (q.1, q.2) (λ other. is_first_at c.args.bytes.now c.in_err-parts.field-0.0 (λ i. omega (arith, c.type_inv.bytes i)) (rw c.version_of-version.ensures at (c.in_err-parts.ensures other)))

pub returns-in_err-parts-clause-refused : goal.returns-in_err-parts-clause-refused
returns-in_err-parts-clause-refused c =
    let q = err_from_is_err_and c.from_residual.result c.from_residual.ensures.1 in
    rw (q.1, q.2) (λ other. refused_spells_nothing c.args.bytes.now c.in_err-parts.field-0.0 (rw c.version_of-version.ensures at (c.in_err-parts.ensures other)))

pub invariant_of-unknown : goal.invariant_of-unknown
invariant_of-unknown c =
    let found = c.in_ok-parts.ensures in
    let read : program_at c.args.bytes.now ≡ Ok found.0 = rw c.version_of-version.ensures at found.1 in
    let spelled : SpellsIn c.version_of-version.result c.args.bytes.now found.0 = rw c.version_of-version.ensures (program_takes_at c.args.bytes.now found.0 (λ i. omega (arith, c.type_inv.bytes i)) read) in
    view_is c.version_of-version.result c.args.bytes.now found.0 c.in_ok-parts.parts.items read spelled found.2

pub returns-clause-found : goal.returns-clause-found
returns-clause-found c =
    let found = c.in_ok-parts.ensures in
    let read : program_at c.args.bytes.now ≡ Ok found.0 = rw c.version_of-version.ensures at found.1 in
    let spelled : SpellsIn c.version_of-version.result c.args.bytes.now found.0 = rw c.version_of-version.ensures (program_takes_at c.args.bytes.now found.0 (λ i. omega (arith, c.type_inv.bytes i)) read) in
    let there : SpellsIn c.version_of-version.result c.args.bytes.now (program_in c.args.bytes.now) = subst (SpellsIn c.version_of-version.result c.args.bytes.now) (sym (program_found c.args.bytes.now found.0 read)) spelled in
    let same : program_in c.args.bytes.now ≡ c.with_stays_known.result.program = sym c.with_stays_known.ensures.program in
    record { version = c.version_of-version.result; spelling = subst (SpellsIn c.version_of-version.result c.args.bytes.now) same there }

pub returns-clause-only : goal.returns-clause-only
returns-clause-only c = λ p spells.
    let same : program_in c.args.bytes.now ≡ c.with_stays_known.result.program = sym c.with_stays_known.ensures.program in
    ap (λ (q : Program). Ok q) (sym (program_found c.args.bytes.now p (program_again_at c.args.bytes.now p spells)) ∙ same)

pub returns-clause-known : goal.returns-clause-known
returns-clause-known c =
    let made = c.with_stays_known.result in
    subst (λ (q : Program). IsTrue made.all_move ↔ NeverStays q) (sym c.with_stays_known.ensures.program) c.with_stays_known.ensures.known
