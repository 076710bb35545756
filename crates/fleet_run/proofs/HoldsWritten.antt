-- Written lists of held agents are read again.
use Rattle.fleet_run.proofs.Words.{◌≡◌, ℕ, ◌+◌, ◌<◌, List, [], ◌∷◌, ◌++◌, length, map, take, get_or, All, None, Some, refl, sym, ap, ◌∙◌, arith, decimal, AllByRecursion, join_with_byte, IsStrictlyIncreasing, recursion_from_All, Holds, ended_text, From, line_more, from_less, from_join, decimal_from, lines_written, list_source, tick_line, tick_of, ticks_of, last_of, text_source, holds_text}
use Rattle.std.proofs.lemmas.Simd.{map-map}
use Rattle.fleet_run.proofs.HoldLaws.{tick_read}

-- ---- a line

pub last_written : (others : List ℕ) (last : ℕ) → join_with_byte 32 (map decimal (others ++ last ∷ [])) ≡ tick_line (others ++ last ∷ [])
last_written [] last = refl
last_written (i ∷ others) last = refl

numbers_from : (n : ℕ) (held : List ℕ) → n < 65536 → AllByRecursion (λ i. i < n) held → AllByRecursion (From 33) (map decimal held)
numbers_from n [] small below = tt
numbers_from n (i ∷ held) small below =
    (from_less 48 33 (decimal i) (omega arith) (decimal_from i (let here = below.0 in omega (arith, here))), numbers_from n held small below.1)

line_from : (n : ℕ) (held : List ℕ) → n < 65536 → AllByRecursion (λ i. i < n) held → From 32 (tick_line held)
line_from n [] small below = (omega arith, tt)
line_from n (i ∷ held) small below = from_join (map decimal (i ∷ held)) (numbers_from n (i ∷ held) small below)

-- ---- ticks

-- the agents of the tick rise, and are below n
record IsTick (n : ℕ) (held : List ℕ) : Type 0 where
  rising : IsStrictlyIncreasing held
  agents : All (λ i. i < n) held

lines_from : (n : ℕ) (ticks : Holds) → n < 65536 → AllByRecursion (IsTick n) ticks → AllByRecursion (From 32) (map tick_line ticks)
lines_from n [] small h = tt
lines_from n (held ∷ ticks) small h = (line_from n held small (recursion_from_All (λ i. i < n) held h.0.agents), lines_from n ticks small h.1)

line_again : (n : ℕ) (held : List ℕ) → n < 65536 → IsTick n held → tick_of n (tick_line held) ≡ Some held
line_again n held small h = tick_read n (tick_line held) held small (record { rising = h.rising; agents = h.agents; written = refl })

ticks_again : (n : ℕ) (ticks : Holds) → n < 65536 → AllByRecursion (IsTick n) ticks → ticks_of n (map tick_line ticks) ≡ ticks
ticks_again n [] small h = refl
ticks_again n (held ∷ ticks) small h = rw (line_again n held small h.0) (ap (λ (more : Holds). held ∷ more) (ticks_again n ticks small h.1))

last_again : (n : ℕ) (ticks : Holds) → n < 65536 → AllByRecursion (IsTick n) ticks → last_of n (map tick_line ticks) ≡ None
last_again n [] small h = refl
last_again n (held ∷ ticks) small h = rw (line_again n held small h.0) (last_again n ticks small h.1)

source_again : (n : ℕ) (ticks : Holds) → n < 65536 → AllByRecursion (IsTick n) ticks → text_source n (holds_text ticks) ≡ list_source ticks
source_again n ticks small h =
    rw (lines_written (map tick_line ticks) (lines_from n ticks small h), ticks_again n ticks small h, last_again n ticks small h) refl

-- ---- rows

-- one line more
pub holds_more :
    {X : Type 0} (items : X → List ℕ) (front all : List ℕ) (rows : List X) (i : ℕ) (row : X) → i < length rows → row ≡ get_or rows i row → front ≡ holds_text (map items (take i rows))
    → all ≡ front ++ tick_line (items row) ++ 10 ∷ [] → all ≡ holds_text (map items (take (i + 1) rows))
holds_more {X} items front all rows i row below is e f =
    let text : X → List ℕ = λ r. tick_line (items r) in
    line_more text front all rows i row below (e ∙ ap ended_text (map-map tick_line items (take i rows))) (f ∙ ap (λ r. front ++ text r ++ 10 ∷ []) is)
    ∙ ap ended_text (sym (map-map tick_line items (take (i + 1) rows)))

are_ticks : {X : Type 0} (items : X → List ℕ) (n : ℕ) (rows : List X) → AllByRecursion (λ row. IsStrictlyIncreasing (items row)) rows → AllByRecursion (λ row. All (λ i. i < n) (items row)) rows → AllByRecursion (IsTick n) (map items rows)
are_ticks items n [] rising below = tt
are_ticks items n (row ∷ rows) rising below = (record { rising = rising.0; agents = below.0 }, are_ticks items n rows rising.1 below.1)

pub rows_again :
    {X : Type 0} (items : X → List ℕ) (n : ℕ) (rows : List X) → n < 65536 → All (λ row. IsStrictlyIncreasing (items row)) rows
    → All (λ row. All (λ i. i < n) (items row)) rows → text_source n (holds_text (map items rows)) ≡ list_source (map items rows)
rows_again items n rows small rising below =
    source_again n (map items rows) small
    (are_ticks items n rows (recursion_from_All (λ row. IsStrictlyIncreasing (items row)) rows rising) (recursion_from_All (λ row. All (λ i. i < n) (items row)) rows below))
