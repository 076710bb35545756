-- A line is read as a tick exactly if it is the line of that tick.
use Rattle.fleet_run.proofs.Words.{◌≡◌, ◌≢◌, ◌∙◌, ℕ, zero, suc, ◌+◌, ◌<◌, ◌≤◌, ◌^◌, ◌&&◌, Bool, true, false, cond, List, [], ◌∷◌, ◌++◌, length, map, get_or, Option, None, Some, nat_le, nat_lt, refl, sym, ap, subst, inl, inr, arith, leb-true, ltb-true, decimal, codes, option_map, option_and_then, slice_split, join_with_byte, AllByRecursion, IsStrictlyIncreasing, cases_Bool, ne_eqb, le-leb, lt-ltb, get_or_append_left, length-map, All-from_recursion, recursion_from_All, Bytes, tick_line, IsTickLine, plain_number, agents_of, is_space, is_dash, tick_of}
use Rattle.std.proofs.lemmas.List.Splits.{join_with_byte-slice_split, slice_split_at, slice_split_none, length-slice_split}
use Rattle.std.proofs.lemmas.Fmt.{decimal_nonempty}
use Rattle.fleet_text.proofs.PlainLaws.{plain_is_decimal, decimal_is_plain, no_space, first_digit}
use Rattle.fleet_text.proofs.SpacedLaws.{dash_is}

-- ---- the agents of a line, in rising order from the least on

abbrev RisesFrom : ℕ → List ℕ → Type 0
RisesFrom least [] = Unit {0}
RisesFrom least (i ∷ held) = (least ≤ i) × RisesFrom (i + 1) held

rising_from : (least : ℕ) (held : List ℕ) → IsStrictlyIncreasing held → (0 < length held → least ≤ get_or held 0 0) → RisesFrom least held
rising_from least [] up low = tt
rising_from least (i ∷ held) up low =
    (low (omega arith), rising_from (i + 1) held tail (λ h. let first = up 0 (omega arith) in omega (arith, first)))
  where
    tail : IsStrictlyIncreasing held
    tail k h = let e : suc k + 1 ≡ suc (k + 1) = omega arith in let next = up (suc k) (omega arith) in rw e at next

from_rising : (least : ℕ) (held : List ℕ) → RisesFrom least held → IsStrictlyIncreasing held
from_rising least [] up k h = absurd (omega arith)
from_rising least (i ∷ []) up k h = absurd (omega arith)
from_rising least (i ∷ j ∷ held) up zero h = omega (arith, up.1.0)
from_rising least (i ∷ j ∷ held) up (suc k) h =
    let e : suc k + 1 ≡ suc (k + 1) = omega arith in
    rw e (from_rising (i + 1) (j ∷ held) up.1 k (omega arith))

-- an agent that is taken, and the others
some_step : (low high : Bool) (i : ℕ) (rest : Option (List ℕ)) (held : List ℕ) → cond (low && high) (option_map (λ (others : List ℕ). i ∷ others) rest) None ≡ Some held
    → (low ≡ true) × (high ≡ true) × ((others : List ℕ) × (rest ≡ Some others) × (i ∷ others ≡ held))
some_step false high i rest held e = absurd cc
some_step true false i rest held e = absurd cc
some_step true true i None held e = absurd cc
some_step true true i (Some others) held e = (refl, refl, (others, refl, cc))

-- the words are those of the agents, which rise from the least on and are below n
pub record AreAgentWords (n least : ℕ) (words : List Bytes) (held : List ℕ) : Type 0 where
  pub written : words ≡ map decimal held
  pub rising : RisesFrom least held
  pub agents : AllByRecursion (λ i. i < n) held

words_are : (n least : ℕ) (words : List Bytes) (held : List ℕ) → n < 65536 → agents_of n least words ≡ Some held → AreAgentWords n least words held
words_are n least [] held small e =
    let none : [] ≡ held = cc in
    subst (AreAgentWords n least []) none (record { written = refl; rising = tt; agents = tt })
words_are n least (word ∷ words) held small e = at (λ i others f. words_are n (i + 1) words others small f) (plain_number word) refl e
  where
    at : ((i : ℕ) (others : List ℕ) → agents_of n (i + 1) words ≡ Some others → AreAgentWords n (i + 1) words others) → (o : Option ℕ) → plain_number word ≡ o
        → option_and_then (λ (i : ℕ). cond (nat_le least i && nat_lt i n) (option_map (λ (others : List ℕ). i ∷ others) (agents_of n (i + 1) words)) None) o ≡ Some held
        → AreAgentWords n least (word ∷ words) held
    at later None is f = absurd cc
    at later (Some i) is f =
        let s = some_step (nat_le least i) (nat_lt i n) i (agents_of n (i + 1) words) held f in
        let below : i < n = ltb-true i n s.1 in
        let r = later i s.2.0 s.2.1 in
        let one : word ≡ decimal i = plain_is_decimal word i is (omega arith) in
        let all : AreAgentWords n least (word ∷ words) (i ∷ s.2.0) = record {
          written = ap (λ (w : Bytes). w ∷ words) one ∙ ap (λ (ws : List Bytes). decimal i ∷ ws) r.written;
          rising = (leb-true least i s.0, r.rising);
          agents = (below, r.agents);
        } in
        subst (AreAgentWords n least (word ∷ words)) s.2.2 all

are_words : (n least : ℕ) (held : List ℕ) → n < 65536 → RisesFrom least held → AllByRecursion (λ i. i < n) held → agents_of n least (map decimal held) ≡ Some held
are_words n least [] small up below = refl
are_words n least (i ∷ held) small up below =
    rw (decimal_is_plain i (omega (arith, below.0)), le-leb least i up.0, lt-ltb i n below.0, are_words n (i + 1) held small up.1 below.1) refl

-- ---- the words of a line

words_of_line : (n i : ℕ) (held : List ℕ) → n < 65536 → AllByRecursion (λ j. j < n) (i ∷ held) → slice_split is_space (join_with_byte 32 (map decimal (i ∷ held))) ≡ map decimal (i ∷ held)
words_of_line n i [] small below = slice_split_none is_space (decimal i) (no_space i (omega (arith, below.0)))
words_of_line n i (j ∷ held) small below =
    slice_split_at is_space (decimal i) 32 (join_with_byte 32 (map decimal (j ∷ held))) (no_space i (omega (arith, below.0))) refl
    ∙ ap (λ (ws : List Bytes). decimal i ∷ ws) (words_of_line n j held small below.1)

not_dash : (bs : Bytes) → get_or bs 0 0 ≢ 45 → is_dash bs ≡ false
not_dash [] h = refl
not_dash (b ∷ []) h = ne_eqb b 45 h
not_dash (b ∷ c ∷ bs) h = refl

line_not_dash : (i : ℕ) (held : List ℕ) → i < 2 ^ 64 → is_dash (join_with_byte 32 (map decimal (i ∷ held))) ≡ false
line_not_dash i [] small = not_dash (decimal i) (first_digit i small)
line_not_dash i (j ∷ held) small =
    not_dash (decimal i ++ 32 ∷ join_with_byte 32 (map decimal (j ∷ held)))
    (λ e. first_digit i small (sym (get_or_append_left (decimal i) (32 ∷ join_with_byte 32 (map decimal (j ∷ held))) 0 0 (decimal_nonempty i small)) ∙ e))

-- ---- lines

-- the words that a line is cut into are some
some_words : (line : Bytes) → 0 < length (slice_split is_space line)
some_words line = omega (arith, length-slice_split is_space line)

written_line : (held : List ℕ) → 0 < length held → tick_line held ≡ join_with_byte 32 (map decimal held)
written_line [] some = absurd (omega arith)
written_line (i ∷ held) some = refl

pub tick_is : (n : ℕ) (line : Bytes) (held : List ℕ) → n < 65536 → tick_of n line ≡ Some held → IsTickLine n line held
tick_is n line held small e =
    elim (cases_Bool (is_dash line)) [
      | inl t ↦ (
          let f : Some [] ≡ Some held = rw t at e in
          let none : [] ≡ held = cc in
          subst (IsTickLine n line) none (record { rising = λ k h. absurd (omega arith); agents = λ k d h. absurd (omega arith); written = dash_is line t }))
      | inr t ↦ (
          let f : agents_of n 0 (slice_split is_space line) ≡ Some held = rw t at e in
          let w = words_are n 0 (slice_split is_space line) held small f in
          let some : 0 < length held = omega (arith, some_words line, ap length w.written, length-map held decimal) in
          record {
            rising = from_rising 0 held w.rising;
            agents = All-from_recursion (λ i. i < n) held w.agents;
            written = sym (join_with_byte-slice_split 32 line) ∙ ap (join_with_byte 32) w.written ∙ sym (written_line held some);
          })
    ]

pub tick_read : (n : ℕ) (line : Bytes) (held : List ℕ) → n < 65536 → IsTickLine n line held → tick_of n line ≡ Some held
tick_read n line [] small h = let e : line ≡ codes "-" = h.written in rw e refl
tick_read n line (i ∷ held) small h =
    let below : AllByRecursion (λ j. j < n) (i ∷ held) = recursion_from_All (λ j. j < n) (i ∷ held) h.agents in
    let up : RisesFrom 0 (i ∷ held) = rising_from 0 (i ∷ held) h.rising (λ s. omega arith) in
    let e : line ≡ join_with_byte 32 (map decimal (i ∷ held)) = h.written in
    rw (e, line_not_dash i held (omega (arith, below.0)), words_of_line n i held small below) (are_words n 0 (i ∷ held) small up below)
