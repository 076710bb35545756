-- What holds of both versions: bytes have the magic of one at most, and so what is known of each is known of both.
use Rattle.fleet_code.proofs.Words.{◌≡◌, ◌≢◌, ℕ, ◌<◌, Bool, true, false, List, [], ◌∷◌, ◌++◌, length, get_or, All, ◌⊎◌, Ok, Err, refl, sym, ap, subst, ◌∙◌, arith, inl, inr, nat_eq, starts_with, append-nil, get_or_append_left, Program, IsWellFormed, err_is, ok_err, ok_is, result_cases, LoadFault, OutOfMemory, Truncated, AgentCount, Total, AwaitAgent, AwaitOrder, AwaitCount, Trailing, Version, One, Two, magic, spelling, CanSpell, SpellsIn, Spells, SpellsNothing, ◌>>=◌, Decides-eqb, starts_is, number_at, magic_at, program_as, version_in, program_at, IsWithoutMagic, IsFirstFaultIn, IsFirstLoadFault}
use Rattle.fleet_code.specs.declared.fault.LoadFault.TheVariants.{Magic, Opcode}
use Rattle.fleet_code.specs.Laws.{NoneBeginsAnother, OneSpellingEach, OneProgramEach, BeginningsAreTruncated, FaultsStay}
use Rattle.fleet_code.proofs.Parts.{IsBytes, IsBytes-from_All}
use Rattle.fleet_code.proofs.RoundTrip.{after_agent_count, program_takes, program_again, none_begins_in, one_spelling_each, spells_own}
use Rattle.fleet_code.proofs.FirstFaults.{differs, begun, magic_ends, magic_differs, is_first}
use Rattle.fleet_code.proofs.ToldFaults.{fails_with, is_told}
use Rattle.fleet_code.proofs.Continued.{fault_stays}
use Rattle.fleet_code.proofs.Beginnings.{AreBytes, front_bytes, spelling_bytes}

-- ---- which version bytes are in

-- what is spelled in a version is read as that version
spelled_version : (v : Version) (p : Program) (rest : List ℕ) → version_in (spelling v p ++ rest) ≡ v
spelled_version One p rest = refl
spelled_version Two p rest = refl

pub read_in_its_version : (v : Version) (bytes : List ℕ) (p : Program) → SpellsIn v bytes p → version_in bytes ≡ v
read_in_its_version v bytes p spells =
    ap version_in (spells.spelled ∙ sym (append-nil (spelling v p))) ∙ spelled_version v p []

-- all that reads bytes whose magic is not wholly there, or is another
fails_in_magic : (v : Version) (bytes : List ℕ) (f : LoadFault) → magic_at v bytes ≡ Err f → program_as v bytes ≡ Err f
unfolding program_as
fails_in_magic v bytes f e = fails_with (magic_at v bytes) (λ r. number_at r >>= after_agent_count v (length bytes)) f e

-- a magic that is not wholly there fits either version
short_fits : (bytes rest : List ℕ) → magic Two ≡ bytes ++ rest → length bytes < 4 → (more : List ℕ) × (magic One ≡ bytes ++ more)
short_fits [] rest e lt = (magic One, refl)
short_fits (a ∷ []) rest e lt = (80 ∷ 70 ∷ 49 ∷ [], cc)
short_fits (a ∷ b ∷ []) rest e lt = (70 ∷ 49 ∷ [], cc)
short_fits (a ∷ b ∷ c ∷ []) rest e lt = (49 ∷ [], cc)
short_fits (a ∷ b ∷ c ∷ d ∷ bytes) rest e lt = absurd (omega (arith, lt))

other_magic : (bytes rest : List ℕ) → bytes ≡ magic Two ++ rest → magic_at One bytes ≡ Err Magic
unfolding magic_at
other_magic bytes rest e = rw e refl

begins_two : (bytes : List ℕ) → starts_with nat_eq bytes (magic Two) ≡ true → (rest : List ℕ) × (bytes ≡ magic Two ++ rest)
begins_two bytes t = (_, (starts_is Decides-eqb bytes (magic Two) (starts_with nat_eq bytes (magic Two)) refl).0 t)

-- ---- faults

magic_or_other : (f : LoadFault) → (f ≡ Magic) ⊎ (f ≢ Magic)
magic_or_other Magic = inl refl
magic_or_other OutOfMemory = inr (λ e. cc)
magic_or_other Truncated = inr (λ e. cc)
magic_or_other AgentCount = inr (λ e. cc)
magic_or_other Total = inr (λ e. cc)
magic_or_other (Opcode at) = inr (λ e. cc)
magic_or_other (AwaitAgent at) = inr (λ e. cc)
magic_or_other (AwaitOrder at) = inr (λ e. cc)
magic_or_other (AwaitCount at) = inr (λ e. cc)
magic_or_other (Trailing at) = inr (λ e. cc)

in_version : (v : Version) (bytes : List ℕ) (f : LoadFault) → f ≢ Magic → IsFirstFaultIn v bytes f → IsFirstLoadFault bytes f
in_version v bytes Magic other h = absurd (other refl)
in_version v bytes OutOfMemory other h = (v, h)
in_version v bytes Truncated other h = (v, h)
in_version v bytes AgentCount other h = (v, h)
in_version v bytes Total other h = (v, h)
in_version v bytes (Opcode at) other h = (v, h)
in_version v bytes (AwaitAgent at) other h = (v, h)
in_version v bytes (AwaitOrder at) other h = (v, h)
in_version v bytes (AwaitCount at) other h = (v, h)
in_version v bytes (Trailing at) other h = (v, h)

from_version : (bytes : List ℕ) (f : LoadFault) → f ≢ Magic → IsFirstLoadFault bytes f → (v : Version) × IsFirstFaultIn v bytes f
from_version bytes Magic other h = absurd (other refl)
from_version bytes OutOfMemory other h = h
from_version bytes Truncated other h = h
from_version bytes AgentCount other h = h
from_version bytes Total other h = h
from_version bytes (Opcode at) other h = h
from_version bytes (AwaitAgent at) other h = h
from_version bytes (AwaitOrder at) other h = h
from_version bytes (AwaitCount at) other h = h
from_version bytes (Trailing at) other h = h

-- a fault of either version beside another magic is that of the version in which the bytes are read
told_in : (v : Version) (bytes : List ℕ) (f : LoadFault) → f ≢ Magic → IsFirstFaultIn v bytes f → program_at bytes ≡ Err f
told_in v bytes f other h = by_magic v (is_told v bytes f h) (starts_with nat_eq bytes (magic Two)) refl
  where
    by_magic : (w : Version) → program_as w bytes ≡ Err f → (t : Bool) → starts_with nat_eq bytes (magic Two) ≡ t → program_at bytes ≡ Err f
    by_magic One e false t = rw t e
    by_magic Two e true t = rw t e
    by_magic One e true t =
        let begun = begins_two bytes t in
        absurd (other (sym (err_is {A = Program} Magic f (sym (fails_in_magic One bytes Magic (other_magic bytes begun.0 begun.1)) ∙ e))))
    by_magic Two e false t =
        elim (differs bytes (magic Two)) [
          | inl m ↦ absurd (let whole = begun bytes (magic Two) m.0 m.1 in cc)
          | inr (inl m) ↦ (
              let is : Truncated ≡ f = err_is {A = Program} Truncated f (sym (fails_in_magic Two bytes Truncated (magic_ends Two bytes m.0 m.1 m.2)) ∙ e) in
              let fits = short_fits bytes m.0 m.1 m.2 in
              rw t (fails_in_magic One bytes Truncated (magic_ends One bytes fits.0 fits.1 m.2) ∙ ap (λ (g : LoadFault). Err g) is))
          | inr (inr m) ↦ absurd (other (sym (err_is {A = Program} Magic f (sym (fails_in_magic Two bytes Magic (magic_differs Two bytes m)) ∙ e))))
        ]

pub is_told_at : (bytes : List ℕ) (f : LoadFault) → IsFirstLoadFault bytes f → program_at bytes ≡ Err f
is_told_at bytes f h =
    elim (magic_or_other f) [
      | inl same ↦ (
          let all : (v : Version) → IsFirstFaultIn v bytes Magic = subst (IsFirstLoadFault bytes) same h in
          rw same (is_told (version_in bytes) bytes Magic (all (version_in bytes))))
      | inr other ↦ (let k = from_version bytes f other h in told_in k.0 bytes f other k.1)
    ]

pub is_first_at : (bytes : List ℕ) (f : LoadFault) → IsBytes bytes → program_at bytes ≡ Err f → IsFirstLoadFault bytes f
is_first_at bytes f fits e =
    elim (magic_or_other f) [
      | inl same ↦ rw same (neither (starts_with nat_eq bytes (magic Two)) refl (e ∙ ap (λ (g : LoadFault). Err g) same))
      | inr other ↦ in_version (version_in bytes) bytes f other (is_first (version_in bytes) bytes f fits e)
    ]
  where
    neither : (t : Bool) → starts_with nat_eq bytes (magic Two) ≡ t → program_at bytes ≡ Err Magic → (v : Version) → IsFirstFaultIn v bytes Magic
    neither true t k One = absurd (begins (begins_two bytes t) (is_first Two bytes Magic fits (rw t at k)))
      where
        begins : (rest : List ℕ) × (bytes ≡ magic Two ++ rest) → IsWithoutMagic Two bytes → ⊥
        begins whole without = without.3 (ap (λ (b : List ℕ). get_or b without.0 0) whole.1 ∙ get_or_append_left (magic Two) whole.0 0 without.0 without.1)
    neither true t k Two = is_first Two bytes Magic fits (rw t at k)
    neither false t k One = is_first One bytes Magic fits (rw t at k)
    neither false t k Two =
        elim (differs bytes (magic Two)) [
          | inl m ↦ absurd (let whole = begun bytes (magic Two) m.0 m.1 in cc)
          | inr (inl m) ↦ (
              let one : program_as One bytes ≡ Err Magic = rw t at k in
              let short = short_fits bytes m.0 m.1 m.2 in
              absurd (let is = err_is {A = Program} Truncated Magic (sym (fails_in_magic One bytes Truncated (magic_ends One bytes short.0 short.1 m.2)) ∙ one) in cc))
          | inr (inr m) ↦ m
        ]

-- ---- the laws

pub program_again_at : (bytes : List ℕ) (p : Program) → Spells bytes p → program_at bytes ≡ Ok p
program_again_at bytes p spells = rw (read_in_its_version spells.version bytes p spells.spelling) (program_again spells.version bytes p spells.spelling)

pub program_takes_at : (bytes : List ℕ) (p : Program) → IsBytes bytes → program_at bytes ≡ Ok p → SpellsIn (version_in bytes) bytes p
program_takes_at bytes p fits e = program_takes (version_in bytes) bytes p fits e

pub program_or_fault : (bytes : List ℕ) → All (λ b. b < 256) bytes → ((p : Program) × Spells bytes p) ⊎ ((f : LoadFault) × IsFirstLoadFault bytes f)
program_or_fault bytes all =
    elim (result_cases (program_at bytes)) [
      | inl p ↦ inl (p.0, record { version = version_in bytes; spelling = program_takes_at bytes p.0 (IsBytes-from_All bytes all) p.1 })
      | inr f ↦ inr (f.0, is_first_at bytes f.0 (IsBytes-from_All bytes all) f.1)
    ]

pub not_both : (bytes : List ℕ) (p : Program) (f : LoadFault) → Spells bytes p → IsFirstLoadFault bytes f → ⊥
not_both bytes p f spells fault = ok_err p f (sym (program_again_at bytes p spells) ∙ is_told_at bytes f fault)

pub one_fault : (bytes : List ℕ) (e f : LoadFault) → IsFirstLoadFault bytes e → IsFirstLoadFault bytes f → e ≡ f
one_fault bytes e f first second = err_is {A = Program} e f (sym (is_told_at bytes e first) ∙ is_told_at bytes f second)

pub none_begins_another : NoneBeginsAnother
none_begins_another front rest p q a b =
    let v = a.version in
    let w = b.version in
    let first = a.spelling in
    let second = b.spelling in
    let own : version_in (front ++ rest) ≡ v = ap (λ (b : List ℕ). version_in (b ++ rest)) first.spelled ∙ spelled_version v p rest in
    let same : w ≡ v = sym (read_in_its_version w (front ++ rest) q second) ∙ own in
    none_begins_in v front rest p q first (subst (λ (u : Version). SpellsIn u (front ++ rest) q) same second)

pub one_spelling : OneSpellingEach
one_spelling v a b p q first second = one_spelling_each v a b p q first second

pub one_program_each : OneProgramEach
one_program_each bytes v w p q first second = (
  sym (read_in_its_version v bytes p first) ∙ read_in_its_version w bytes q second,
  ok_is p q (sym (program_again_at bytes p (record { version = v; spelling = first })) ∙ program_again_at bytes q (record { version = w; spelling = second })),
)

pub no_other : (v : Version) (p q : Program) → IsWellFormed p → CanSpell v p → Spells (spelling v p) q → q ≡ p
no_other v p q fits spellable spells = (one_program_each (spelling v p) spells.version v q p spells.spelling (spells_own v p fits spellable)).1

-- what is read of bytes is refused only if they spell nothing
pub refused_spells_nothing : (bytes : List ℕ) (f : LoadFault) → program_at bytes ≡ Err f → SpellsNothing bytes
refused_spells_nothing bytes f e p spells = let again = program_again_at bytes p spells in cc

pub faults_stay : FaultsStay
faults_stay bytes more f h truncated =
    elim (magic_or_other f) [
      | inl same ↦ (
          let all : (v : Version) → IsFirstFaultIn v bytes Magic = subst (IsFirstLoadFault bytes) same h in
          subst (IsFirstLoadFault (bytes ++ more)) (sym same) (λ v. fault_stays v more bytes Magic (all v) (λ e. cc)))
      | inr other ↦ (let k = from_version bytes f other h in in_version k.0 (bytes ++ more) f other (fault_stays k.0 more bytes f k.1 truncated))
    ]

truncated_or_other : (f : LoadFault) → (f ≡ Truncated) ⊎ (f ≢ Truncated)
truncated_or_other Truncated = inl refl
truncated_or_other OutOfMemory = inr (λ e. cc)
truncated_or_other Magic = inr (λ e. cc)
truncated_or_other AgentCount = inr (λ e. cc)
truncated_or_other Total = inr (λ e. cc)
truncated_or_other (Opcode at) = inr (λ e. cc)
truncated_or_other (AwaitAgent at) = inr (λ e. cc)
truncated_or_other (AwaitOrder at) = inr (λ e. cc)
truncated_or_other (AwaitCount at) = inr (λ e. cc)
truncated_or_other (Trailing at) = inr (λ e. cc)

-- a beginning of a spelling has no fault but that it ends: it spells no program, and another fault would stay
pub beginnings_are_truncated : BeginningsAreTruncated
beginnings_are_truncated v p front rest fits spellable e left =
    let whole : Spells (front ++ rest) p = record { version = v; spelling = record { well_formed = fits; spellable = spellable; spelled = sym e } } in
    elim (program_or_fault front (front_bytes front rest (subst AreBytes e (spelling_bytes v p)))) [
      | inl q ↦ (let nothing = ap length (none_begins_another front rest q.0 p q.1 whole).0 in absurd (omega (arith, nothing, left)))
      | inr f ↦ elim (truncated_or_other f.0) [
        | inl same ↦ subst (IsFirstLoadFault front) same f.1
        | inr other ↦ absurd (not_both (front ++ rest) p f.0 whole (faults_stay front rest f.0 f.1 other))
      ]
    ]
