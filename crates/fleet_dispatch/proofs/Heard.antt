-- The words of a report, read one after another.
use Rattle.fleet_dispatch.proofs.Cited.{◌≡◌, ◌∙◌, ℕ, ◌+◌, ◌-◌, ◌<◌, ◌≤◌, ◌++◌, Bool, true, false, ◌&&◌, List, [], ◌∷◌, length, get_or, Option, None, Some, refl, sym, ap, arith, append_assoc, append-nil, le-leb, lt-ltb, leb-true, ltb-true, length-append, option_map, option_and_then, nat_le, nat_lt, if◌then◌else◌, get_or-append_seam, MAX_AGENTS, Bytes, ReportForm, Reported, Words, IsBehind, word_of, words_of}

-- the report has the first words of a line, and these are those behind them
pub record IsReadTo (form : ReportForm) (total : Option Words) (report : Words) (rest : List Bytes) : Type 0 where
  pub least : ℕ
  pub so_far : total ≡ option_map (λ (more : Words). report ++ more) (words_of form least (MAX_AGENTS - length report) rest)
  pub behind : (w : Reported) → least ≤ w.agent → length report < MAX_AGENTS → IsBehind report w
  pub later : (w : Reported) → IsBehind report w → least ≤ w.agent

pub begun : (form : ReportForm) (words : List Bytes) → IsReadTo form (words_of form 0 MAX_AGENTS words) [] words
begun form words = record {
  least = 0;
  so_far = as_it_is (words_of form 0 MAX_AGENTS words);
  behind = λ w le room. record { few = omega arith; later = λ some. absurd (omega arith) };
  later = λ w h. omega arith;
}
  where
    as_it_is : (o : Option Words) → o ≡ option_map (λ (more : Words). [] ++ more) o
    as_it_is None = refl
    as_it_is (Some ws) = refl

-- what a word says that may come next, and what not
abbrev then_words : (form : ReportForm) (least room : ℕ) → List Bytes → Reported → Option Words
then_words form least room words w =
    if nat_le least w.agent && nat_lt 0 room then option_map (λ (others : Words). w ∷ others) (words_of form (w.agent + 1) (room - 1) words) else None

module _ (form : ReportForm) (total : Option Words) (report : Words) (word : Bytes) (words : List Bytes) (read : IsReadTo form total report (word ∷ words)) where
  pub no_word : word_of form word ≡ None → total ≡ None
  no_word e = read.so_far ∙ ap (λ (o : Option Reported). option_map (λ (more : Words). report ++ more) (option_and_then (then_words form read.least (MAX_AGENTS - length report) words) o)) e

  module _ (w : Reported) (says : word_of form word ≡ Some w) where
    at : total ≡ option_map (λ (more : Words). report ++ more) (then_words form read.least (MAX_AGENTS - length report) words w)
    at = read.so_far ∙ ap (λ (o : Option Reported). option_map (λ (more : Words). report ++ more) (option_and_then (then_words form read.least (MAX_AGENTS - length report) words) o)) says

    pub not_behind : (IsBehind report w → ⊥) → total ≡ None
    not_behind never = at ∙ go (nat_le read.least w.agent) (nat_lt 0 (MAX_AGENTS - length report)) refl refl
      where
        go : (a b : Bool) → nat_le read.least w.agent ≡ a → nat_lt 0 (MAX_AGENTS - length report) ≡ b
            → option_map (λ (more : Words). report ++ more) (then_words form read.least (MAX_AGENTS - length report) words w) ≡ None
        go true true e f =
            let low : read.least ≤ w.agent = leb-true _ _ e in
            let room : 0 < MAX_AGENTS - length report = ltb-true _ _ f in
            absurd (never (read.behind w low (omega arith)))
        go true false e f = rw (e, f) refl
        go false b e f = rw e refl

    pub goes_on : IsBehind report w → IsReadTo form total (report ++ w ∷ []) words
    goes_on is_behind =
        let few : length report < MAX_AGENTS = is_behind.few in
        let low : nat_le read.least w.agent ≡ true = le-leb _ _ (read.later w is_behind) in
        let room : nat_lt 0 (MAX_AGENTS - length report) ≡ true = lt-ltb _ _ (omega arith) in
        let long : length (report ++ w ∷ []) ≡ length report + 1 = omega (arith, length-append report (w ∷ [])) in
        let left : MAX_AGENTS - length report - 1 ≡ MAX_AGENTS - length (report ++ w ∷ []) = omega (arith, long) in
        record {
          least = w.agent + 1;
          so_far = at ∙ rw (low, room) (joined (words_of form (w.agent + 1) (MAX_AGENTS - length report - 1) words))
              ∙ ap (λ n. option_map (λ (more : Words). (report ++ w ∷ []) ++ more) (words_of form (w.agent + 1) n words)) left;
          behind = λ v le more. record {
            few = more;
            later = λ some.
                let end : length (report ++ w ∷ []) - 1 ≡ length report = omega (arith, long) in
                let last : get_or (report ++ w ∷ []) (length (report ++ w ∷ []) - 1) v ≡ w = ap (λ n. get_or (report ++ w ∷ []) n v) end ∙ get_or-append_seam report w [] v in
                omega (arith, le, ap (λ (x : Reported). x.agent) last);
          };
          later = λ v h.
              let end : length (report ++ w ∷ []) - 1 ≡ length report = omega (arith, long) in
              let last : get_or (report ++ w ∷ []) (length (report ++ w ∷ []) - 1) v ≡ w = ap (λ n. get_or (report ++ w ∷ []) n v) end ∙ get_or-append_seam report w [] v in
              omega (arith, h.later (omega (arith, long)), ap (λ (x : Reported). x.agent) last);
        }
      where
        joined : (o : Option Words) → option_map (λ (more : Words). report ++ more) (option_map (λ (others : Words). w ∷ others) o) ≡ option_map (λ (more : Words). (report ++ w ∷ []) ++ more) o
        joined None = refl
        joined (Some more) = ap (λ (xs : Words). Some xs) (sym (append_assoc report (w ∷ []) more))

pub all_read : (form : ReportForm) (total : Option Words) (report : Words) → IsReadTo form total report [] → total ≡ Some report
all_read form total report read = read.so_far ∙ ap (λ (xs : Words). Some xs) (append-nil report)
