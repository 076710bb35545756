-- What is read of the same bytes agrees.
use Rattle.fleet_code.proofs.Words.{◌≢◌, ℕ, List, Result, Ok, Err, IfOk, IfErr, Program, LoadFault, OutOfMemory, Spells, Viewed, IsFirstLoadFault}
use Rattle.fleet_code.specs.Laws.{Agree}
use Rattle.fleet_code.proofs.Versions.{one_program_each, not_both, one_fault}

pub agree : (bytes : List ℕ) (one : Result Viewed LoadFault) (other : Result Program LoadFault)
    → IfOk one (λ v. Spells bytes v.program) → IfErr one (λ e. e ≢ OutOfMemory → IsFirstLoadFault bytes e)
    → IfOk other (Spells bytes) → IfErr other (λ e. e ≢ OutOfMemory → IsFirstLoadFault bytes e) → Agree one other
agree bytes (Ok p) (Ok q) s e t f = (one_program_each bytes s.version t.version p.program q s.spelling t.spelling).1
agree bytes (Err d) (Err g) s e t f = λ first second. one_fault bytes d g (e first) (f second)
agree bytes (Ok p) (Err g) s e t f = λ second. not_both bytes p.program g s (f second)
agree bytes (Err d) (Ok q) s e t f = λ first. not_both bytes q d t (e first)
