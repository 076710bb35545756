-- Words whose numbers follow one another.
use Rattle.std.proofs.Common.{◌≡◌, ℕ, zero, suc, ◌+◌, ◌-◌, ◌/◌, ◌%◌, ◌^◌, ◌<◌, ◌≤◌, List, ◌∷◌, [], ◌++◌, map, length, length-append, take, drop, refl, sym, ap, ◌∙◌, subst, arith, append_assoc, append-nil}
use Rattle.std.specs.List.{range_with_len, flat_map}
use Rattle.std.specs.Fmt.{decimal}
use Rattle.std.proofs.lemmas.List.{map-append, length-drop, take-take, take-append-le, take_all, flat_map_more}
use Rattle.std.proofs.lemmas.List.FromFn.{map-range_with_len_more}
use Rattle.fleet_text.specs.Sink.{SinkState, StopsWithin}
use Rattle.fleet_text.specs.Row.{PassesOn}
use Rattle.fleet_text.specs.Words.{next_words, next_front, numbered_text, numbered_words, tens_text, digit_words}
use Rattle.fleet_text.proofs.DigitLemmas.{decimal_by_tens}
use Rattle.fleet_text.proofs.SinkLemmas.{next_words-append, passes_more, stops_past, stops_before}

-- ---- a word is its front and its last digit

pub front_and_digit : (owner number : ℕ) → number < 2 ^ 64 → 32 ∷ numbered_text owner number ≡ next_front owner (number / 10) ++ ((48 + number % 10) ∷ [])
front_and_digit owner number fits =
    ap (λ ds. 32 ∷ ((decimal owner ++ 58 ∷ []) ++ ds)) (decimal_by_tens number fits)
    ∙ ap (λ l. 32 ∷ l) (sym (append_assoc (decimal owner ++ 58 ∷ []) (tens_text (number / 10)) ((48 + number % 10) ∷ [])))

-- one word more, which differs in the last digit alone
pub digit_more :
    (owner number k : ℕ) → number % 10 + k < 10 → number + k < 2 ^ 64
    → next_words (numbered_words owner number (k + 1)) ≡ next_words (numbered_words owner number k) ++ (next_front owner (number / 10) ++ ((48 + (number % 10 + k)) ∷ []))
digit_more owner number k few fits =
    let tens : (number + k) / 10 ≡ number / 10 = omega (arith, few) in
    let last : (number + k) % 10 ≡ number % 10 + k = omega (arith, few) in
    let word : 32 ∷ numbered_text owner (number + k) ≡ next_front owner (number / 10) ++ ((48 + (number % 10 + k)) ∷ []) =
    front_and_digit owner (number + k) fits ∙ (ap (λ t. next_front owner t ++ ((48 + (number + k) % 10) ∷ [])) tens ∙ ap (λ d. next_front owner (number / 10) ++ ((48 + d) ∷ [])) last) in
    ap next_words (map-range_with_len_more (numbered_text owner) number k (number + k) refl)
    ∙ (next_words-append (numbered_words owner number k) (numbered_text owner (number + k) ∷ [])
    ∙ ap (λ l. next_words (numbered_words owner number k) ++ l) (append-nil (32 ∷ numbered_text owner (number + k)) ∙ word))

-- what is written before a place of a row, up to there
pub written_front : (front row old : List ℕ) (start : ℕ) → start ≤ 16 → length row ≡ length old → drop start row ≡ front ++ drop 16 old → 16 ≤ length old → take (16 - start) (take (start + 16 - start) (drop start row)) ≡ front
written_front front row old start le same written room =
    let long : length front ≡ 16 - start = omega (arith, ap length written, length-append front (drop 16 old), length-drop start row, length-drop 16 old, le, same, room) in
    take-take (16 - start) (start + 16 - start) (drop start row) (omega (arith, le))
    ∙ (ap (take (16 - start)) written
    ∙ (ap (λ n. take n (front ++ drop 16 old)) (sym long) ∙ (take-append-le (length front) front (drop 16 old) (omega arith) ∙ take_all (length front) front (omega arith))))

-- ---- so many numbers, and more after them

range_split : (a m n : ℕ) → range_with_len a (m + n) ≡ range_with_len a m ++ range_with_len (a + m) n
range_split a zero n =
    let none : 0 + n ≡ n = omega arith in
    let same : a ≡ a + 0 = omega arith in
    ap (λ k. range_with_len a k) none ∙ ap (λ b. range_with_len b n) same
range_split a (suc m) n =
    let more : suc m + n ≡ suc (m + n) = omega arith in
    let same : a + 1 + m ≡ a + suc m = omega arith in
    ap (λ k. range_with_len a k) more ∙ ap (λ l. a ∷ l) (range_split (a + 1) m n ∙ ap (λ b. range_with_len (a + 1) m ++ range_with_len b n) same)

-- ---- digits behind the same bytes

-- one digit more
pub digit_words_more : (front : List ℕ) (digit k : ℕ) → digit_words front digit (k + 1) ≡ digit_words front digit k ++ (front ++ (digit + k) ∷ [])
digit_words_more front digit k =
    ap (flat_map (λ d. front ++ d ∷ [])) (range_split digit k 1) ∙ sym (flat_map_more (λ d. front ++ d ∷ []) [] (range_with_len digit k) (digit + k))

-- words whose numbers differ in the last digit alone are their front and these digits
pub digits_are_words : (owner number count : ℕ) → number % 10 + count ≤ 10 → number + count < 2 ^ 64
    → digit_words (next_front owner (number / 10)) (48 + number % 10) count ≡ next_words (numbered_words owner number count)
digits_are_words owner number zero few fits = refl
digits_are_words owner number (suc k) few fits =
    let one : suc k ≡ k + 1 = omega arith in
    let front = next_front owner (number / 10) in
    let digit : 48 + number % 10 + k ≡ 48 + (number % 10 + k) = omega arith in
    ap (digit_words front (48 + number % 10)) one
    ∙ (digit_words_more front (48 + number % 10) k
    ∙ (ap (λ d. digit_words front (48 + number % 10) k ++ (front ++ d ∷ [])) digit
    ∙ (ap (λ l. l ++ (front ++ (48 + (number % 10 + k)) ∷ [])) (digits_are_words owner number k (omega (arith, few)) (omega (arith, fits)))
    ∙ (sym (digit_more owner number k (omega (arith, few)) (omega (arith, fits)))
    ∙ ap (λ n. next_words (numbered_words owner number n)) (sym one)))))

pub numbered_split : (owner first m n : ℕ) → next_words (numbered_words owner first (m + n)) ≡ next_words (numbered_words owner first m) ++ next_words (numbered_words owner (first + m) n)
numbered_split owner first m n =
    ap (λ l. next_words (map (numbered_text owner) l)) (range_split first m n)
    ∙ (ap next_words (map-append (numbered_text owner) (range_with_len first m) (range_with_len (first + m) n))
    ∙ next_words-append (numbered_words owner first m) (numbered_words owner (first + m) n))

-- so many words more were put into the row
pub passed_numbered :
    (a b c : SinkState) (r s t : List ℕ) (owner first done here : ℕ) → PassesOn a b r s (next_words (numbered_words owner first done))
    → PassesOn b c s t (next_words (numbered_words owner (first + done) here)) → PassesOn a c r t (next_words (numbered_words owner first (done + here)))
passed_numbered a b c r s t owner first done here so_far next =
    subst (PassesOn a c r t) (sym (numbered_split owner first done here)) (passes_more a b c r s t (next_words (numbered_words owner first done)) (next_words (numbered_words owner (first + done) here)) so_far next)

-- the sink failed within so many words more
pub stops_within_numbered :
    (a b c : SinkState) (r s : List ℕ) (owner first done here count : ℕ) → done + here ≤ count → PassesOn a b r s (next_words (numbered_words owner first done))
    → StopsWithin b c (s ++ next_words (numbered_words owner (first + done) here)) → StopsWithin a c (r ++ next_words (numbered_words owner first count))
stops_within_numbered a b c r s owner first done here count le so_far next =
    let within : StopsWithin a c (r ++ (next_words (numbered_words owner first done) ++ next_words (numbered_words owner (first + done) here))) =
    stops_past a b c r s (next_words (numbered_words owner first done)) (next_words (numbered_words owner (first + done) here)) so_far next in
    let more : StopsWithin a c (r ++ next_words (numbered_words owner first (done + here))) =
    subst (λ l. StopsWithin a c (r ++ l)) (sym (numbered_split owner first done here)) within in
    let whole : done + here + (count - (done + here)) ≡ count = omega (arith, le) in
    subst (λ n. StopsWithin a c (r ++ next_words (numbered_words owner first n))) whole
    (subst (λ l. StopsWithin a c (r ++ l)) (sym (numbered_split owner first (done + here) (count - (done + here))))
    (stops_before a c r (next_words (numbered_words owner first (done + here))) (next_words (numbered_words owner (first + (done + here)) (count - (done + here)))) more))
