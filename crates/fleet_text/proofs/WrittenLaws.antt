-- What is written word by word and line by line, and how written lines, words and numbers are read again.
use Rattle.std.proofs.Common.{◌≡◌, ◌≢◌, ℕ, zero, suc, ◌+◌, ◌-◌, ◌*◌, ◌/◌, ◌%◌, ◌^◌, ◌≤◌, ◌<◌, Bool, true, false, eqb, List, [], ◌∷◌, ◌++◌, length, map, filter, take, get_or, Option, Some, None, refl, sym, ap, subst, ◌∙◌, append_assoc, arith, inl, inr}
use Rattle.std.specs.Prelude.{decimal}
use Rattle.std.specs.List.{AllByRecursion, slice_split, flat_map, onto_first, join_with_byte}
use Rattle.std.specs.Str.Lines.{strip_carriage_return}
use Rattle.std.proofs.lemmas.Bool.{cases_Bool, ne_eqb, le-leb, lt-ltb}
use Rattle.std.proofs.lemmas.Fmt.{decimal_by_steps}
use Rattle.std.proofs.lemmas.List.{append-nil, flat_map_more, length-append, take_more}
use Rattle.fleet_text.specs.Text.{Bytes, is_blank, is_word, starts_blank, is_digit, ended_lines, lines, words, words_from_front, number_after, number, small_number}
use Rattle.fleet_text.specs.Words.{ended_text}
use Rattle.fleet_text.specs.declared.numbers.TheConstants.{TOO_LARGE}

-- ---- what is written one after the other

-- the texts, each with a space after it
abbrev pub each_spaced : {X : Type 0} → (X → Bytes) → List X → Bytes
each_spaced text xs = flat_map (λ x. text x ++ 32 ∷ []) xs

-- one text more
pub spaced_more :
    {X : Type 0} (text : X → Bytes) (before front all : Bytes) (xs : List X) (i : ℕ) (d : X) → i < length xs → front ≡ before ++ each_spaced text (take i xs)
    → all ≡ front ++ text (get_or xs i d) ++ 32 ∷ [] → all ≡ before ++ each_spaced text (take (i + 1) xs)
spaced_more text before front all xs i d below e f =
    f ∙ append_assoc front (text (get_or xs i d)) (32 ∷ []) ∙ ap (λ (t : Bytes). t ++ (text (get_or xs i d) ++ 32 ∷ [])) e
    ∙ flat_map_more (λ x. text x ++ 32 ∷ []) before (take i xs) (get_or xs i d) ∙ ap (λ (ys : List _). before ++ each_spaced text ys) (sym (take_more xs i d below))

-- those before the last, and the last one
join_last : {X : Type 0} (text : X → Bytes) (xs : List X) (last : X) → join_with_byte 32 (map text (xs ++ last ∷ [])) ≡ each_spaced text xs ++ text last
join_last text [] last = refl
join_last text (x ∷ []) last = sym (append_assoc (text x) (32 ∷ []) (text last)) ∙ ap (λ (t : Bytes). t ++ text last) (sym (append-nil (text x ++ 32 ∷ [])))
join_last text (x ∷ y ∷ xs) last =
    ap (λ (t : Bytes). text x ++ 32 ∷ t) (join_last text (y ∷ xs) last)
    ∙ sym (append_assoc (text x) (32 ∷ []) (each_spaced text (y ∷ xs) ++ text last))
    ∙ sym (append_assoc (text x ++ 32 ∷ []) (each_spaced text (y ∷ xs)) (text last))

-- the last one, and the end of the line
pub line_written :
    {X : Type 0} (text : X → Bytes) (before front all : Bytes) (xs : List X) (last : X) → front ≡ before ++ each_spaced text xs
    → all ≡ front ++ text last ++ 10 ∷ [] → all ≡ before ++ join_with_byte 32 (map text (xs ++ last ∷ [])) ++ 10 ∷ []
line_written text before front all xs last e f =
    f ∙ ap (λ (t : Bytes). t ++ 10 ∷ []) (ap (λ (t : Bytes). t ++ text last) e ∙ append_assoc before (each_spaced text xs) (text last) ∙ ap (λ (t : Bytes). before ++ t) (sym (join_last text xs last)))

ended_push : {X : Type 0} (text : X → Bytes) (xs : List X) (x : X) → ended_text (map text (xs ++ x ∷ [])) ≡ ended_text (map text xs) ++ (text x ++ 10 ∷ [])
ended_push text [] x = append-nil (text x ++ 10 ∷ [])
ended_push text (y ∷ xs) x =
    ap (λ (t : Bytes). (text y ++ 10 ∷ []) ++ t) (ended_push text xs x) ∙ sym (append_assoc (text y ++ 10 ∷ []) (ended_text (map text xs)) (text x ++ 10 ∷ []))

-- one line more
pub line_more :
    {X : Type 0} (text : X → Bytes) (front all : Bytes) (xs : List X) (i : ℕ) (d : X) → i < length xs → front ≡ ended_text (map text (take i xs))
    → all ≡ front ++ text (get_or xs i d) ++ 10 ∷ [] → all ≡ ended_text (map text (take (i + 1) xs))
line_more text front all xs i d below e f =
    f ∙ append_assoc front (text (get_or xs i d)) (10 ∷ []) ∙ ap (λ (t : Bytes). t ++ (text (get_or xs i d) ++ 10 ∷ [])) e
    ∙ sym (ended_push text (take i xs) (get_or xs i d)) ∙ ap (λ (ys : List _). ended_text (map text ys)) (sym (take_more xs i d below))

-- ---- numbers

number_push : (m n d : ℕ) (ds : Bytes) → number_after m ds ≡ Some n → is_digit d ≡ true → number_after m (ds ++ d ∷ []) ≡ Some (10 * n + (d - 48))
unfolding number_after
number_push m n d [] e t = rw t (ap (λ (o : Option ℕ). o) (let f : m ≡ n = cc in ap (λ (x : ℕ). Some (10 * x + (d - 48))) f))
number_push m n d (b ∷ ds) e t =
    elim (cases_Bool (is_digit b)) [
      | inl u ↦ (let f : number_after (10 * m + (b - 48)) ds ≡ Some n = rw u at e in rw u (number_push (10 * m + (b - 48)) n d ds f t))
      | inr u ↦ absurd (let f : None ≡ Some n = rw u at e in cc)
    ]

-- the text spells the number, and has digits alone
pub record SpellsNumber (n : ℕ) (ds : Bytes) : Type 0 where
  pub value : number_after 0 ds ≡ Some n
  pub digits : AllByRecursion (λ d. (48 ≤ d) × (d ≤ 57)) ds
  pub some : 1 ≤ length ds

digit_is : (d : ℕ) → 48 ≤ d → d ≤ 57 → is_digit d ≡ true
digit_is d low high = rw (le-leb 48 d low, le-leb d 57 high) refl

digits_push : (ds : Bytes) (d : ℕ) → AllByRecursion (λ d. (48 ≤ d) × (d ≤ 57)) ds → 48 ≤ d → d ≤ 57 → AllByRecursion (λ d. (48 ≤ d) × (d ≤ 57)) (ds ++ d ∷ [])
digits_push [] d h low high = ((low, high), tt)
digits_push (b ∷ ds) d h low high = (h.0, digits_push ds d h.1 low high)

spells_one : (n : ℕ) → n < 10 → SpellsNumber n ((48 + n) ∷ [])
unfolding number_after
spells_one n lt = record {
  value = rw (digit_is (48 + n) (omega arith) (omega arith)) (let e : 10 * 0 + (48 + n - 48) ≡ n = omega arith in ap (λ (x : ℕ). Some x) e);
  digits = ((omega arith, omega arith), tt);
  some = omega arith;
}

spells_more : (n : ℕ) (ds : Bytes) → 10 ≤ n → SpellsNumber (n / 10) ds → SpellsNumber n (ds ++ ((48 + n % 10) ∷ []))
spells_more n ds big h =
    let low : 48 ≤ 48 + n % 10 = omega arith in
    let high : 48 + n % 10 ≤ 57 = omega arith in
    let e : 10 * (n / 10) + (48 + n % 10 - 48) ≡ n = omega arith in
    record {
      value = number_push 0 (n / 10) (48 + n % 10) ds h.value (digit_is (48 + n % 10) low high) ∙ ap (λ (x : ℕ). Some x) e;
      digits = digits_push ds (48 + n % 10) h.digits low high;
      some = omega (arith, length-append ds ((48 + n % 10) ∷ []));
    }

pub spells : (n : ℕ) → n < 2 ^ 64 → SpellsNumber n (decimal n)
spells n lt = decimal_by_steps SpellsNumber spells_one spells_more n lt

pub number_is : (n : ℕ) (ds : Bytes) → SpellsNumber n ds → number ds ≡ Some n
unfolding number
number_is n [] h = absurd (let some = h.some in omega (arith, some))
number_is n (d ∷ ds) h = h.value

pub small_is : (n : ℕ) → n < TOO_LARGE → small_number (decimal n) ≡ Some n
unfolding small_number
small_is n lt = rw (number_is n (decimal n) (spells n (omega arith)), lt-ltb n TOO_LARGE lt) refl

-- ---- bytes from a least one on

abbrev pub From : ℕ → Bytes → Type 0
From least bytes = AllByRecursion (λ b. least ≤ b) bytes

pub from_less : (more less : ℕ) (bytes : Bytes) → less ≤ more → From more bytes → From less bytes
from_less more less [] le h = tt
from_less more less (b ∷ bytes) le h = (let here = h.0 in omega (arith, here), from_less more less bytes le h.1)

pub from_append : (least : ℕ) (a b : Bytes) → From least a → From least b → From least (a ++ b)
from_append least [] b h k = k
from_append least (x ∷ a) b h k = (h.0, from_append least a b h.1 k)

from_digits : (ds : Bytes) → AllByRecursion (λ d. (48 ≤ d) × (d ≤ 57)) ds → From 48 ds
from_digits [] h = tt
from_digits (d ∷ ds) h = (h.0.0, from_digits ds h.1)

-- the digits of a number
pub decimal_from : (n : ℕ) → n < 2 ^ 64 → From 48 (decimal n)
decimal_from n lt = from_digits (decimal n) (spells n lt).digits

pub from_join : (ws : List Bytes) → AllByRecursion (From 33) ws → From 32 (join_with_byte 32 ws)
from_join [] h = tt
from_join (w ∷ []) h = from_less 33 32 w (omega arith) h.0
from_join (w ∷ v ∷ ws) h = from_append 32 w (32 ∷ join_with_byte 32 (v ∷ ws)) (from_less 33 32 w (omega arith) h.0) (omega arith, from_join (v ∷ ws) h.1)

-- ---- words

pub apart_from : (least b : ℕ) (c : ℕ) → c < least → least ≤ b → eqb b c ≡ false
apart_from least b c lt le = ne_eqb b c (let differ : b ≢ c = omega arith in differ)

pub split_first : (p : ℕ → Bool) (w : Bytes) (c : ℕ) (rest : Bytes) → AllByRecursion (λ b. p b ≡ false) w → p c ≡ true → slice_split p (w ++ c ∷ rest) ≡ w ∷ slice_split p rest
split_first p [] c rest h e = rw e refl
split_first p (b ∷ w) c rest h e = rw h.0 (ap (onto_first b) (split_first p w c rest h.1 e))

pub split_last : (p : ℕ → Bool) (w : Bytes) → AllByRecursion (λ b. p b ≡ false) w → slice_split p w ≡ w ∷ []
split_last p [] h = refl
split_last p (b ∷ w) h = rw h.0 (ap (onto_first b) (split_last p w h.1))

no_blank : (w : Bytes) → From 33 w → AllByRecursion (λ b. is_blank b ≡ false) w
no_blank [] h = tt
no_blank (b ∷ w) h = (rw (apart_from 33 b 32 (omega arith) h.0, apart_from 33 b 9 (omega arith) h.0) refl, no_blank w h.1)

-- a word with no blank, nor any byte below one
pub record IsToken (w : Bytes) : Type 0 where
  pub some : is_word w ≡ true
  pub bytes : From 33 w

pub tokens_from : (ws : List Bytes) → AllByRecursion IsToken ws → AllByRecursion (From 33) ws
tokens_from [] h = tt
tokens_from (w ∷ ws) h = (h.0.bytes, tokens_from ws h.1)

pub word_some : (ds more : Bytes) → 1 ≤ length ds → is_word (ds ++ more) ≡ true
word_some [] more some = absurd (omega arith)
word_some (d ∷ ds) more some = refl

-- the digits of a number
pub decimal_token : (n : ℕ) → n < 2 ^ 64 → IsToken (decimal n)
decimal_token n lt = record {
  some = subst (λ (w : Bytes). is_word w ≡ true) (append-nil (decimal n)) (word_some (decimal n) [] (spells n lt).some);
  bytes = from_less 48 33 (decimal n) (omega arith) (decimal_from n lt);
}

-- with a blank between two
pub words_join : (c : ℕ) (ws : List Bytes) → is_blank c ≡ true → AllByRecursion IsToken ws → words (join_with_byte c ws) ≡ ws
unfolding words
words_join c [] e h = refl
words_join c (w ∷ []) e h = ap (filter is_word) (split_last is_blank w (no_blank w h.0.bytes)) ∙ rw h.0.some refl
words_join c (w ∷ v ∷ ws) e h =
    ap (filter is_word) (split_first is_blank w c (join_with_byte c (v ∷ ws)) (no_blank w h.0.bytes) e) ∙ rw h.0.some (ap (λ (more : List Bytes). w ∷ more) (words_join c (v ∷ ws) e h.1))

pub front_join : (ws : List Bytes) → AllByRecursion IsToken ws → 1 ≤ length ws → words_from_front (join_with_byte 32 ws) ≡ ws
front_join [] h some = absurd (omega arith)
front_join (w ∷ []) h some = rw (front w h.0) (words_join 32 (w ∷ []) refl h)
  where
    front : (w : Bytes) → IsToken w → starts_blank w ≡ false
    front [] t = refl
    front (b ∷ w) t = (no_blank (b ∷ w) t.bytes).0
front_join (w ∷ v ∷ ws) h some = rw (front w h.0 (32 ∷ join_with_byte 32 (v ∷ ws))) (words_join 32 (w ∷ v ∷ ws) refl h)
  where
    front : (w : Bytes) → IsToken w → (rest : Bytes) → starts_blank (w ++ rest) ≡ false
    front [] t rest = absurd (let e : false ≡ true = t.some in cc)
    front (b ∷ w) t rest = (no_blank (b ∷ w) t.bytes).0

-- ---- lines

ended_first : (l rest : Bytes) → From 32 l → ended_lines (l ++ 10 ∷ rest) ≡ l ∷ ended_lines rest
unfolding ended_lines
ended_first [] rest h = refl
ended_first (b ∷ l) rest h = rw (apart_from 32 b 10 (omega arith) h.0) (ap (onto_first b) (ended_first l rest h.1))

pub at_from : (l : Bytes) (k : ℕ) → From 32 l → k < length l → 32 ≤ get_or l k 0
at_from [] k h lt = absurd (omega arith)
at_from (b ∷ l) zero h lt = h.0
at_from (b ∷ l) (suc k) h lt = at_from l k h.1 (omega arith)

last_is_no_cr : (l : Bytes) → From 32 l → eqb (get_or l (length l - 1) 0) 13 ≡ false
last_is_no_cr [] h = refl
last_is_no_cr (b ∷ l) h = apart_from 32 (get_or (b ∷ l) (length (b ∷ l) - 1) 0) 13 (omega arith) (at_from (b ∷ l) (length (b ∷ l) - 1) h (omega arith))

pub keeps_end : (l : Bytes) → From 32 l → strip_carriage_return l ≡ l
keeps_end l h = rw (last_is_no_cr l h) refl

pub lines_written : (ls : List Bytes) → AllByRecursion (From 32) ls → lines (ended_text ls) ≡ ls
unfolding lines ended_lines
lines_written [] h = refl
lines_written (l ∷ ls) h =
    let one : ended_text (l ∷ ls) ≡ l ++ 10 ∷ ended_text ls = append_assoc l (10 ∷ []) (ended_text ls) in
    ap lines one ∙ ap (map strip_carriage_return) (ended_first l (ended_text ls) h.0) ∙ ap (λ (x : Bytes). x ∷ lines (ended_text ls)) (keeps_end l h.0) ∙ ap (λ (more : List Bytes). l ∷ more) (lines_written ls h.1)
