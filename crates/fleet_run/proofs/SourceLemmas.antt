-- The flags of a tick, one number at a time.
use Rattle.fleet_run.proofs.Words.{◌≡◌, ◌≢◌, ◌==◌, ◌∙◌, sym, ℕ, ◌+◌, ◌<◌, ◌≤◌, Bool, true, false, List, [], ◌∷◌, ◌++◌, length, get_or, set, take, ◌⊎◌, refl, inl, inr, arith, get_or-set_other, length-set, take_more, is_among, AreFlagsOf}
use Rattle.std.proofs.lemmas.Bool.Decides.{eqb_tells}
use Rattle.std.proofs.lemmas.Grind.{get_or-set_at}
use Rattle.std.proofs.Math.Bool.{or-true}

pub is_among-last : (i n : ℕ) (ns : List ℕ) → (n == i) ≡ true → is_among (ns ++ n ∷ []) i ≡ true
is_among-last i n [] e = rw e refl
is_among-last i n (m ∷ ms) e = rw (is_among-last i n ms e) (or-true (m == i))

pub is_among-other : (i n : ℕ) (ns : List ℕ) → (n == i) ≡ false → is_among (ns ++ n ∷ []) i ≡ is_among ns i
is_among-other i n [] e = rw e refl
is_among-other i n (m ∷ ms) e = rw (is_among-other i n ms e) refl

-- the flag of one more number is set
pub flags_set : (tick : List ℕ) (n : ℕ) (flags : List Bool) → n < length flags → AreFlagsOf tick flags → AreFlagsOf (tick ++ n ∷ []) (set flags n true)
flags_set tick n flags here h i below =
    elim (eqb_tells n i) [
      | inl e ↦ get_or-set_at flags n i true false (sym e.1) here ∙ sym (is_among-last i n tick e.0)
      | inr e ↦
          let other : i ≢ n = λ q. e.1 (sym q) in
          let within : i < length flags = simp length-set at below in
          get_or-set_other flags n i true false other ∙ h i within ∙ sym (is_among-other i n tick e.0)
    ]

-- a number past the flags changes none
pub flags_past : (tick : List ℕ) (n : ℕ) (flags : List Bool) → length flags ≤ n → AreFlagsOf tick flags → AreFlagsOf (tick ++ n ∷ []) flags
flags_past tick n flags past h i below =
    elim (eqb_tells n i) [
      | inl e ↦ absurd (omega (arith, e.1))
      | inr e ↦ h i below ∙ sym (is_among-other i n tick e.0)
    ]

-- the flags after the number at an index
pub flags_step :
    (numbers : List ℕ) (index n : ℕ) (flags new : List Bool) → index < length numbers → n ≡ get_or numbers index 0
    → AreFlagsOf (take index numbers) flags
    → ((n < length flags) × (new ≡ set flags n true)) ⊎ ((length flags ≤ n) × (new ≡ flags))
    → AreFlagsOf (take (index + 1) numbers) new
flags_step numbers index n flags new within read h change =
    let more : take (index + 1) numbers ≡ take index numbers ++ n ∷ [] = rw read (take_more numbers index 0 within) in
    let P : List ℕ → List Bool → Type 0 = AreFlagsOf in
    elim change [
      | inl e ↦ rw (more, e.1) (flags_set (take index numbers) n flags e.0 h)
      | inr e ↦ rw (more, e.1) (flags_past (take index numbers) n flags e.0 h)
    ]
