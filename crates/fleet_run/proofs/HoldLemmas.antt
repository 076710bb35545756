-- The words of a line of holds, one after another.
use Rattle.fleet_run.proofs.Words.{◌≡◌, ◌∙◌, ℕ, ◌+◌, ◌<◌, ◌≤◌, min, List, [], ◌∷◌, ◌++◌, Option, None, Some, refl, sym, ap, arith, append_assoc, option_map, le-leb, lt-ltb, Bytes, plain_number, agents_of}

-- ---- the first of the words

some_capped : (most : ℕ) (o : Option ℕ) (i : ℕ) → option_map (λ (n : ℕ). min n most) o ≡ Some i → (n : ℕ) × (o ≡ Some n) × (min n most ≡ i)
some_capped most None i e = absurd cc
some_capped most (Some n) i e = (n, refl, cc)

-- the number of an agent, where numbers from a greater one on are answered as that one
pub word_inside : (most n least i : ℕ) (word : Bytes) (words : List Bytes) → n ≤ most → option_map (λ (k : ℕ). min k most) (plain_number word) ≡ Some i
    → least ≤ i → i < n → agents_of n least (word ∷ words) ≡ option_map (λ (others : List ℕ). i ∷ others) (agents_of n (i + 1) words)
word_inside most n least i word words small e low high =
    let s = some_capped most (plain_number word) i e in
    let same : s.0 ≡ i = omega (arith, s.2) in
    let here : plain_number word ≡ Some i = s.1 ∙ ap (λ (k : ℕ). Some k) same in
    rw (here, le-leb least i low, lt-ltb i n high) refl

-- ---- the words so far

module _ (total : Option (List ℕ)) (held : List ℕ) (part : Option (List ℕ)) (so_far : total ≡ option_map (λ (more : List ℕ). held ++ more) part) where
  pub one_more : (i : ℕ) (rest : Option (List ℕ)) → part ≡ option_map (λ (others : List ℕ). i ∷ others) rest → total ≡ option_map (λ (more : List ℕ). (held ++ i ∷ []) ++ more) rest
  one_more i rest e = so_far ∙ ap (option_map (λ (more : List ℕ). held ++ more)) e ∙ joined rest
    where
      joined : (rest : Option (List ℕ)) → option_map (λ (more : List ℕ). held ++ more) (option_map (λ (others : List ℕ). i ∷ others) rest) ≡ option_map (λ (more : List ℕ). (held ++ i ∷ []) ++ more) rest
      joined None = refl
      joined (Some more) = ap (λ (xs : List ℕ). Some xs) (sym (append_assoc held (i ∷ []) more))
