-- Reading the front of a text byte by byte, as the loops do.
use Rattle.fleet_plan.proofs.Words.{◌≡◌, ◌≤◌, ◌<◌, true, false, [], ◌∷◌, length, get_or, drop, refl, arith, Bytes, is_blank, after_blanks}

-- ---- blanks

pub blanks_end : (rest : Bytes) → length rest < 1 → after_blanks rest ≡ rest
unfolding after_blanks
blanks_end [] e = refl
blanks_end (b ∷ rest) e = absurd (omega arith)

pub no_blank_stays : (rest : Bytes) → 1 ≤ length rest → is_blank (get_or rest 0 0) ≡ false → after_blanks rest ≡ rest
unfolding after_blanks
no_blank_stays [] some e = absurd (omega arith)
no_blank_stays (b ∷ rest) some e = rw e refl

pub blank_goes : (rest : Bytes) → 1 ≤ length rest → is_blank (get_or rest 0 0) ≡ true → after_blanks (drop 1 rest) ≡ after_blanks rest
unfolding after_blanks
blank_goes [] some e = absurd (omega arith)
blank_goes (b ∷ rest) some e = rw e refl
