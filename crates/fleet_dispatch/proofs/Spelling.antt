-- A line that is read as a report is the line of that report, and no line's end is in it.
use Rattle.fleet_dispatch.proofs.Cited.{◌≡◌, ◌∙◌, ℕ, suc, ◌+◌, ◌-◌, ◌<◌, ◌&&◌, cond, List, [], ◌∷◌, ◌++◌, length, map, get_or, take, drop, Option, None, Some, nat_le, nat_lt, refl, sym, ap, subst, inl, inr, arith, eqb-true, ltb-true, append_assoc, append-nil, decimal, ltb, add-one, length-append, option_map, option_and_then, position, slice_split, join_with_byte, AllByRecursion, position_or_len, strip_carriage_return, cases_Bool, ltb-false, position_or_len_is, get_or-append, get_or-append_seam, same_Some, take-append-drop, take_more, position-Some, join_with_byte-slice_split, length-slice_split, MAX_AGENTS, Bytes, is_lf, From, from_less, from_append, from_join, decimal_from, apart_from, at_from, keeps_end, is_space, is_dash, plain_number, dash_is, plain_is_decimal, ReportForm, Numbered, Unnumbered, TOO_LONG, Reported, Words, Reports, Asks, word_text, report_line, log_line, long_number, is_colon, word_of, words_of, report_of, is_question, line_of, HasLine}

-- ---- numbers and words

-- what a word spells, and that no blank is in it
record IsSpelled (word : Bytes) (text : Bytes) : Type 0 where
  same : word ≡ text
  from : From 33 text

number_spelled : (word : Bytes) (n : ℕ) → long_number word ≡ Some n → IsSpelled word (decimal n)
number_spelled word n e = go (plain_number word) refl e
  where
    go : (o : Option ℕ) → plain_number word ≡ o → option_and_then (λ (m : ℕ). cond (nat_lt m TOO_LONG) (Some m) None) o ≡ Some n → IsSpelled word (decimal n)
    go None p f = absurd cc
    go (Some m) p f = elim (cases_Bool (nat_lt m TOO_LONG)) [
      | inr u ↦ absurd (let g : None ≡ Some n = rw u at f in cc)
      | inl t ↦ (
          let g : Some m ≡ Some n = rw t at f in
          let same : m ≡ n = same_Some m n g in
          let small : m < TOO_LONG = ltb-true m TOO_LONG t in
          subst (λ (x : ℕ). IsSpelled word (decimal x)) same
          (record { same = plain_is_decimal word m p (omega arith); from = from_less 48 33 (decimal m) (omega arith) (decimal_from m (omega arith)) }))
    ]

-- a text with a byte in it
cut_at : (word : Bytes) (end b : ℕ) → end < length word → get_or word end 0 ≡ b → word ≡ take end word ++ b ∷ drop (end + 1) word
cut_at word end b inside e =
    sym (take-append-drop (end + 1) word) ∙ ap (λ (x : Bytes). x ++ drop (end + 1) word) (take_more word end 0 inside ∙ ap (λ (x : ℕ). take end word ++ x ∷ []) e)
    ∙ append_assoc (take end word) (b ∷ []) (drop (end + 1) word)

word_spelled : (form : ReportForm) (word : Bytes) (w : Reported) → word_of form word ≡ Some w → IsSpelled word (word_text w)
word_spelled Unnumbered word w e = go (long_number word) refl e
  where
    go : (o : Option ℕ) → long_number word ≡ o → option_map (λ (i : ℕ). record { agent = i; number = None }) o ≡ Some w → IsSpelled word (word_text w)
    go None p f = absurd cc
    go (Some i) p f =
        let same : record { agent = i; number = None } ≡ w = same_Some _ w f in
        let one = number_spelled word i p in
        subst (λ (x : Reported). IsSpelled word (word_text x)) same (record { same = one.same ∙ sym (append-nil (decimal i)); from = from_append 33 (decimal i) [] one.from tt })
word_spelled Numbered word w e = at (position is_colon word) refl e
  where
    joined : (end i n : ℕ) → position is_colon word ≡ Some end → IsSpelled (take end word) (decimal i) → IsSpelled (drop (end + 1) word) (decimal n)
        → IsSpelled word (word_text (record { agent = i; number = Some n }))
    joined end i n p a b =
        let here = position-Some is_colon word end 0 p in
        let colon : get_or word end 0 ≡ 58 = eqb-true _ _ here.1 in
        record {
          same = cut_at word end 58 here.0 colon ∙ ap (λ (x : Bytes). x ++ 58 ∷ drop (end + 1) word) a.same ∙ ap (λ (x : Bytes). decimal i ++ 58 ∷ x) b.same;
          from = from_append 33 (decimal i) (58 ∷ decimal n) a.from (omega arith, b.from);
        }

    number : (end i : ℕ) → position is_colon word ≡ Some end → IsSpelled (take end word) (decimal i) → (o : Option ℕ) → long_number (drop (end + 1) word) ≡ o
        → option_map (λ (n : ℕ). record { agent = i; number = Some n }) o ≡ Some w → IsSpelled word (word_text w)
    number end i p a None q f = absurd cc
    number end i p a (Some n) q f =
        let same : record { agent = i; number = Some n } ≡ w = same_Some _ w f in
        subst (λ (x : Reported). IsSpelled word (word_text x)) same (joined end i n p a (number_spelled (drop (end + 1) word) n q))

    agent : (end : ℕ) → position is_colon word ≡ Some end → (o : Option ℕ) → long_number (take end word) ≡ o
        → option_and_then (λ (i : ℕ). option_map (λ (n : ℕ). record { agent = i; number = Some n }) (long_number (drop (end + 1) word))) o ≡ Some w → IsSpelled word (word_text w)
    agent end p None q f = absurd cc
    agent end p (Some i) q f = number end i p (number_spelled (take end word) i q) (long_number (drop (end + 1) word)) refl f

    at : (o : Option ℕ) → position is_colon word ≡ o
        → option_and_then (λ (end : ℕ). option_and_then (λ (i : ℕ). option_map (λ (n : ℕ). record { agent = i; number = Some n }) (long_number (drop (end + 1) word))) (long_number (take end word))) o ≡ Some w
        → IsSpelled word (word_text w)
    at None p f = absurd cc
    at (Some end) p f = agent end p (long_number (take end word)) refl f

-- ---- the words of a line

record AreSpelled (words : List Bytes) (ws : Words) : Type 0 where
  same : words ≡ map word_text ws
  from : AllByRecursion (From 33) (map word_text ws)

then_spelled : (form : ReportForm) (least room : ℕ) (word : Bytes) (words : List Bytes) (ws : Words) → ((w : Reported) (others : Words) → words_of form (w.agent + 1) (room - 1) words ≡ Some others → AreSpelled words others)
    → (o : Option Reported) → word_of form word ≡ o
    → option_and_then (λ (w : Reported). cond (nat_le least w.agent && nat_lt 0 room) (option_map (λ (others : Words). w ∷ others) (words_of form (w.agent + 1) (room - 1) words)) None) o ≡ Some ws
    → AreSpelled (word ∷ words) ws
then_spelled form least room word words ws later None p f = absurd cc
then_spelled form least room word words ws later (Some w) p f = elim (cases_Bool (nat_le least w.agent && nat_lt 0 room)) [
  | inr u ↦ absurd (let g : None ≡ Some ws = rw u at f in cc)
  | inl t ↦ (
      let g : option_map (λ (others : Words). w ∷ others) (words_of form (w.agent + 1) (room - 1) words) ≡ Some ws = rw t at f in
      more (words_of form (w.agent + 1) (room - 1) words) refl g)
]
  where
    one : IsSpelled word (word_text w)
    one = word_spelled form word w p

    more : (o : Option Words) → words_of form (w.agent + 1) (room - 1) words ≡ o → option_map (λ (others : Words). w ∷ others) o ≡ Some ws → AreSpelled (word ∷ words) ws
    more None q g = absurd cc
    more (Some others) q g =
        let same : w ∷ others ≡ ws = same_Some _ ws g in
        let rest = later w others q in
        subst (AreSpelled (word ∷ words)) same (record { same = ap (λ (x : Bytes). x ∷ words) one.same ∙ ap (λ (xs : List Bytes). word_text w ∷ xs) rest.same; from = (one.from, rest.from) })

words_spelled : (form : ReportForm) (least room : ℕ) (words : List Bytes) (ws : Words) → words_of form least room words ≡ Some ws → AreSpelled words ws
words_spelled form least room [] ws e = let none : [] ≡ ws = same_Some [] ws e in subst (AreSpelled []) none (record { same = refl; from = tt })
words_spelled form least room (word ∷ words) ws e =
    then_spelled form least room word words ws (λ w others q. words_spelled form (w.agent + 1) (room - 1) words others q) (word_of form word) refl e

-- ---- lines

-- the line of the report, in which no byte is less than a space
pub record IsLineOf (line : Bytes) (words : Words) : Type 0 where
  pub same : line ≡ report_line words
  pub from : From 32 (report_line words)

line_spelled : (line : Bytes) (words : Words) → AreSpelled (slice_split is_space line) words → IsLineOf line words
line_spelled line [] h = absurd (let none = ap length h.same in omega (arith, none, length-slice_split is_space line))
line_spelled line (w ∷ words) h = record {
  same = sym (join_with_byte-slice_split 32 line) ∙ ap (join_with_byte 32) h.same;
  from = from_join (map word_text (w ∷ words)) h.from;
}

report_spelled : (form : ReportForm) (line : Bytes) (words : Words) → report_of form line ≡ Some words → IsLineOf line words
report_spelled form line words e = elim (cases_Bool (is_dash line)) [
  | inl t ↦ (
      let f : Some [] ≡ Some words = rw t at e in
      let none : [] ≡ words = same_Some [] words f in
      subst (IsLineOf line) none (record { same = dash_is line t; from = (omega arith, tt) }))
  | inr n ↦ (
      let f : words_of form 0 MAX_AGENTS (slice_split is_space line) ≡ Some words = rw n at e in
      line_spelled line words (words_spelled form 0 MAX_AGENTS (slice_split is_space line) words f))
]

-- what reads as a report is the line of it, and reads as it
pub line_is : (form : ReportForm) (line : Bytes) (words : Words) → line_of form line ≡ Some (Reports words) → IsLineOf line words
line_is form line words e = elim (cases_Bool (is_question line)) [
  | inl t ↦ absurd (let f : Some Asks ≡ Some (Reports words) = rw t at e in let g : Asks ≡ Reports words = same_Some Asks (Reports words) f in cc)
  | inr n ↦ go (report_of form line) refl (rw n at e)
]
  where
    go : (o : Option Words) → report_of form line ≡ o → option_map Reports o ≡ Some (Reports words) → IsLineOf line words
    go None p f = absurd cc
    go (Some ws) p f = let g : Reports ws ≡ Reports words = same_Some (Reports ws) (Reports words) f in let same : ws ≡ words = cc in report_spelled form line words (p ∙ ap (λ (x : Words). Some x) same)

pub reads_again : (form : ReportForm) (line : Bytes) (words : Words) → line_of form line ≡ Some (Reports words) → line_of form (report_line words) ≡ Some (Reports words)
reads_again form line words e = ap (line_of form) (sym (line_is form line words e).same) ∙ e

-- ---- the first line of a log

ends_there : (line rest : Bytes) → From 32 line → position is_lf (line ++ 10 ∷ rest) ≡ Some (length line)
ends_there line rest h =
    let text : Bytes = line ++ 10 ∷ rest in
    let long : length line < length text = omega (arith, length-append line (10 ∷ rest)) in
    let here : position_or_len is_lf text ≡ length line = position_or_len_is is_lf text (length line) 0 (omega (arith, long))
    (λ k before. ap is_lf (get_or-append line (10 ∷ rest) 0 k before) ∙ apart_from 32 (get_or line k 0) 10 (omega arith) (at_from line k h before))
    (λ inside. ap is_lf (get_or-append_seam line 10 rest 0)) in
    rw here (elim (cases_Bool (ltb (length line) (length text))) [
      | inl t ↦ rw t refl
      | inr u ↦ absurd (let g = ltb-false _ _ u in omega (arith, long))
    ])

takes_line : (line rest : Bytes) → take (length line) (line ++ rest) ≡ line
takes_line [] rest = refl
takes_line (b ∷ line) rest = ap (λ (x : Bytes). b ∷ x) (takes_line line rest)

drops_past : (line rest : Bytes) (b : ℕ) → drop (suc (length line)) (line ++ b ∷ rest) ≡ rest
drops_past [] rest b = refl
drops_past (c ∷ line) rest b = drops_past line rest b

drops_line : (line rest : Bytes) (b : ℕ) → drop (length line + 1) (line ++ b ∷ rest) ≡ rest
drops_line line rest b = ap (λ (n : ℕ). drop n (line ++ b ∷ rest)) (add-one (length line)) ∙ drops_past line rest b

pub first_of_log : (words : Words) (rest : Bytes) → From 32 (report_line words) → HasLine (log_line words ++ rest) (report_line words) rest
first_of_log words rest h =
    let line = report_line words in
    let text : log_line words ++ rest ≡ line ++ 10 ∷ rest = append_assoc line (10 ∷ []) rest in
    subst (λ (x : Bytes). HasLine x line rest) (sym text) (record {
      end = length line;
      ends = ends_there line rest h;
      line_is = sym (keeps_end line h) ∙ ap strip_carriage_return (sym (takes_line line (10 ∷ rest)));
      rest_is = sym (drops_line line rest 10);
    })
