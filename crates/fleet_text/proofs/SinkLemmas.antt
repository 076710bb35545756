-- How the pieces that a sink took join: those that came by way of a row, and the words of a line.
use Rattle.std.proofs.Common.{◌≡◌, ℕ, ◌+◌, ◌-◌, ◌≤◌, List, [], ◌++◌, length, take, drop, Option, Result, Ok, Err, IsErr, refl, arith, append_assoc, length-append, ◌∙◌, sym, subst, ap, append-nil, ◌<◌, ◌∷◌, get_or, map}
use Rattle.std.proofs.Math.Seq.{take-add, take-append-add}
use Rattle.std.proofs.lemmas.List.{take-append-le, take_all, take_more, map-append, take-append-drop}
use Rattle.std.proofs.KnownBytes.{Appends-nil, Appends-trans}
use Rattle.std.specs.List.{flat_map}
use Rattle.std.proofs.lemmas.Grind.{common_steps, flat_map-append}
use Rattle.std.specs.Io.KnownBytes.{Appends}
use Rattle.fleet_text.specs.Sink.{SinkState, Takes, StopsWithin, TakesAll, IsWorking}
use Rattle.fleet_text.specs.Row.{PassesOn, Gathers}
use Rattle.fleet_text.specs.declared.row.Word.{Word}
use Rattle.fleet_text.specs.Words.{word_text, with_spaces, next_words}

-- growth by equal bytes
pub appends_same : (a b : Option (List ℕ)) (xs ys : List ℕ) → Appends a b xs → xs ≡ ys → Appends a b ys
appends_same a b xs ys h e = let P : List ℕ → Type 0 = λ zs. Appends a b zs in rw e at h

-- a piece after the first `at` bytes
pub appends_piece :
    (a b c : Option (List ℕ)) (bytes : List ℕ) (at n : ℕ) → at ≤ length bytes → Appends a b (take at bytes)
    → Appends b c (take n (take (length bytes - at) (drop at bytes))) → n ≤ length (take (length bytes - at) (drop at bytes)) → Appends a c (take (at + n) bytes)
appends_piece a b c bytes at n le h k short =
    let whole : take (length bytes - at) (drop at bytes) ≡ drop at bytes = grind (arith, common_steps) in
    let piece : take n (take (length bytes - at) (drop at bytes)) ≡ take n (drop at bytes) = rw whole refl in
    appends_same a c (take at bytes ++ take n (drop at bytes)) (take (at + n) bytes)
    (Appends-trans a b c (take at bytes) (take n (drop at bytes)) h (appends_same b c _ _ k piece))
    (rw take-add refl)

-- what failed within the first bytes, failed within all
pub stops_within_more : (a c : SinkState) (xs ys : List ℕ) → StopsWithin a c xs → StopsWithin a c (xs ++ ys)
stops_within_more a c xs ys h =
    let n = h.taken.0 in
    let below = h.taken.1 in
    record {
      taken = (
        n,
        (let same : length (xs ++ ys) ≡ length xs + length ys = length-append xs ys in omega (arith, below)),
        appends_same a.taken c.taken (take n xs) (take n (xs ++ ys)) h.taken.2 (let le : n ≤ length xs = omega (arith, below) in rw take-append-le refl),
      );
      failed = h.failed;
    }

-- what took the first bytes, and then failed within the rest, failed within all
pub stops_after : (a b c : SinkState) (xs ys : List ℕ) → Takes a b xs → StopsWithin b c ys → StopsWithin a c (xs ++ ys)
stops_after a b c xs ys h then =
    let n = then.taken.0 in
    let below = then.taken.1 in
    record {
      taken = (
        length xs + n,
        (let e : length (xs ++ ys) ≡ length xs + length ys = length-append xs ys in omega (arith, below)),
        appends_same a.taken c.taken (xs ++ take n ys) (take (length xs + n) (xs ++ ys)) (Appends-trans a.taken b.taken c.taken xs (take n ys) h.taken then.taken.2) (rw take-append-add refl),
      );
      failed = then.failed;
    }

-- one taking after another
pub takes_more : (a b c : SinkState) (xs ys : List ℕ) → Takes a b xs → Takes b c ys → Takes a c (xs ++ ys)
takes_more a b c xs ys h k = record { taken = Appends-trans a.taken b.taken c.taken xs ys h.taken k.taken; working = k.working }

-- what took the first bytes, and then takes or fails at the rest
pub takes_then : {T E : Type 0} (a b c : SinkState) (r : Result T E) (xs ys : List ℕ) → Takes a b xs → TakesAll b c r ys → TakesAll a c r (xs ++ ys)
takes_then a b c (Ok _) xs ys h k = takes_more a b c xs ys h k
takes_then a b c (Err _) xs ys h k = stops_after a b c xs ys h k

-- an answer that is an error, if the sink failed within the bytes
pub takes_err : {T E : Type 0} (a c : SinkState) (r : Result T E) (xs : List ℕ) → IsErr r → StopsWithin a c xs → TakesAll a c r xs
takes_err a c (Ok _) xs e h = cc
takes_err a c (Err _) xs e h = h

-- some bytes, and more after them
pub passes_more : (a b c : SinkState) (r s t xs ys : List ℕ) → PassesOn a b r s xs → PassesOn b c s t ys → PassesOn a c r t (xs ++ ys)
passes_more a b c r s t xs ys first next =
    let h = first.handed in
    let k = next.handed in
    record {
      handed = h ++ k;
      taken = takes_more a b c h k first.taken next.taken;
      in_order = sym (append_assoc r xs ys) ∙ ap (λ l. l ++ ys) first.in_order ∙ append_assoc h s ys ∙ ap (λ l. h ++ l) next.in_order ∙ sym (append_assoc h k t);
    }

-- the row and the bytes, as they went to the sink
after_row : (r s h xs ys : List ℕ) → r ++ xs ≡ h ++ s → h ++ (s ++ ys) ≡ r ++ (xs ++ ys)
after_row r s h xs ys e = sym (append_assoc h s ys) ∙ ap (λ l. l ++ ys) (sym e) ∙ append_assoc r xs ys

-- the sink failed within what came after the first bytes
pub stops_past : (a b c : SinkState) (r s xs ys : List ℕ) → PassesOn a b r s xs → StopsWithin b c (s ++ ys) → StopsWithin a c (r ++ (xs ++ ys))
stops_past a b c r s xs ys first k = subst (StopsWithin a c) (after_row r s first.handed xs ys first.in_order) (stops_after a b c first.handed (s ++ ys) first.taken k)

-- the sink failed within the first bytes
pub stops_before : (a c : SinkState) (r xs ys : List ℕ) → StopsWithin a c (r ++ xs) → StopsWithin a c (r ++ (xs ++ ys))
stops_before a c r xs ys h = subst (StopsWithin a c) (append_assoc r xs ys) (stops_within_more a c (r ++ xs) ys h)

pub gathers_then :
    {T E : Type 0} (a b c : SinkState) (res : Result T E) (r s t xs ys : List ℕ)
    → PassesOn a b r s xs → Gathers b c res s t ys → Gathers a c res r t (xs ++ ys)
gathers_then a b c (Ok _) r s t xs ys h k = passes_more a b c r s t xs ys h k
gathers_then a b c (Err _) r s t xs ys h k = stops_past a b c r s xs ys h k

-- the bytes stay in the row
pub kept_in_row : (a : SinkState) (r t xs : List ℕ) → IsWorking a → t ≡ r ++ xs → PassesOn a a r t xs
kept_in_row a r t xs works e = record { handed = []; taken = record { taken = Appends-nil a.taken; working = works }; in_order = sym e }

-- an answer that is an error, if the sink failed within the bytes
pub gathers_err : {T E : Type 0} (a c : SinkState) (res : Result T E) (r t xs : List ℕ) → IsErr res → StopsWithin a c (r ++ xs) → Gathers a c res r t xs
gathers_err a c (Ok _) r t xs e h = cc
gathers_err a c (Err _) r t xs e h = h

-- there was room in the row, and the bytes stay there
pub room_made : (a c : SinkState) (r l t xs : List ℕ) → PassesOn a c r l [] → t ≡ l ++ xs → PassesOn a c r t xs
room_made a c r l t xs made e = record {
  handed = made.handed;
  taken = made.taken;
  in_order = sym (after_row r l made.handed [] xs made.in_order) ∙ ap (λ z. made.handed ++ z) (sym e);
}

-- .. or the sink failed before there was
pub room_refused : {T E : Type 0} (a c : SinkState) (res : Result T E) (r t xs : List ℕ) → IsErr res → StopsWithin a c (r ++ []) → Gathers a c res r t xs
room_refused a c res r t xs e h = gathers_err a c res r t xs e (stops_before a c r [] xs h)

-- .. of what was written by way of an empty row, and more
pub takes_err_then : {T E : Type 0} (a c : SinkState) (res : Result T E) (xs ys : List ℕ) → IsErr res → StopsWithin a c xs → TakesAll a c res (xs ++ ys)
takes_err_then a c (Ok _) xs ys e h = cc
takes_err_then a c (Err _) xs ys e h = stops_within_more a c xs ys h

-- the rest of the bytes went to the sink with all that was in the row
pub takes_rest :
    {T E : Type 0} (a b c : SinkState) (res : Result T E) (r s xs ys : List ℕ)
    → PassesOn a b r s xs → TakesAll b c res (s ++ ys) → TakesAll a c res (r ++ (xs ++ ys))
takes_rest a b c res r s xs ys first k = subst (TakesAll a c res) (after_row r s first.handed xs ys first.in_order) (takes_then a b c res first.handed (s ++ ys) first.taken k)

-- the bytes went to the sink with all that was in the row
pub takes_handed :
    {T E : Type 0} (a b c : SinkState) (res : Result T E) (r s xs : List ℕ)
    → PassesOn a b r s xs → TakesAll b c res s → TakesAll a c res (r ++ xs)
takes_handed a b c res r s xs first k = subst (TakesAll a c res) (sym first.in_order) (takes_then a b c res first.handed s first.taken k)

-- all that was in the row went to the sink, and the bytes after it
pub gathers_whole :
    {T E : Type 0} (a c : SinkState) (res : Result T E) (r t xs : List ℕ) → t ≡ [] → TakesAll a c res (r ++ xs) → Gathers a c res r t xs
gathers_whole a c (Ok _) r t xs none h = record { handed = r ++ xs; taken = h; in_order = sym (append-nil (r ++ xs)) ∙ ap (λ l. (r ++ xs) ++ l) (sym none) }
gathers_whole a c (Err _) r t xs none h = h

-- words after others
pub with_spaces-append : (first : List ℕ) (xs ys : List (List ℕ)) → with_spaces (first ∷ (xs ++ ys)) ≡ with_spaces (first ∷ xs) ++ next_words ys
with_spaces-append first [] [] = sym (append-nil first)
with_spaces-append first [] (y ∷ ys) = ap (λ t. first ++ 32 ∷ t) (with_spaces-append y [] ys)
with_spaces-append first (x ∷ xs) ys = rw (with_spaces-append x xs ys) (sym (append_assoc first (32 ∷ with_spaces (x ∷ xs)) (next_words ys)))

-- one word more
pub words_more : (first : Word) (rest : List Word) (i : ℕ) (d : Word) → i < length rest → with_spaces (map word_text (first ∷ take i rest)) ++ 32 ∷ word_text (get_or rest i d) ≡ with_spaces (map word_text (first ∷ take (i + 1) rest))
words_more first rest i d below =
    let one : 32 ∷ word_text (get_or rest i d) ≡ next_words (word_text (get_or rest i d) ∷ []) = sym (append-nil (32 ∷ word_text (get_or rest i d))) in
    let more : take (i + 1) rest ≡ take i rest ++ get_or rest i d ∷ [] = take_more rest i d below in
    let texts : map word_text (take (i + 1) rest) ≡ map word_text (take i rest) ++ word_text (get_or rest i d) ∷ [] =
    ap (map word_text) more ∙ map-append word_text (take i rest) (get_or rest i d ∷ []) in
    ap (λ t. with_spaces (map word_text (first ∷ take i rest)) ++ t) one
    ∙ sym (with_spaces-append (word_text first) (map word_text (take i rest)) (word_text (get_or rest i d) ∷ []))
    ∙ ap (λ ts. with_spaces (word_text first ∷ ts)) (sym texts)

-- the words begin with those up to an index
pub words_split : (first : Word) (rest : List Word) (i : ℕ) → with_spaces (map word_text (first ∷ rest)) ≡ with_spaces (map word_text (first ∷ take i rest)) ++ next_words (map word_text (drop i rest))
words_split first rest i =
    ap (λ r. with_spaces (word_text first ∷ map word_text r)) (sym (take-append-drop i rest))
    ∙ ap (λ ts. with_spaces (word_text first ∷ ts)) (map-append word_text (take i rest) (drop i rest))
    ∙ with_spaces-append (word_text first) (map word_text (take i rest)) (map word_text (drop i rest))

-- one word more was put into the row
pub passed_more :
    (a b c : SinkState) (r s t : List ℕ) (words rest : List Word) (i : ℕ) (d : Word) → i < length rest
    → ((first : Word) × (words ≡ first ∷ rest) × PassesOn a b r s (with_spaces (map word_text (first ∷ take i rest))))
    → PassesOn b c s t (32 ∷ word_text (get_or rest i d))
    → (first : Word) × (words ≡ first ∷ rest) × PassesOn a c r t (with_spaces (map word_text (first ∷ take (i + 1) rest)))
passed_more a b c r s t words rest i d below (first, are, so_far) next = (
  first,
  are,
  subst (PassesOn a c r t) (words_more first rest i d below) (passes_more a b c r s t (with_spaces (map word_text (first ∷ take i rest))) (32 ∷ word_text (get_or rest i d)) so_far next),
)

-- all words were put into the row
pub passed_all :
    (a c : SinkState) (r t : List ℕ) (words rest : List Word) (i : ℕ) → length rest ≤ i
    → ((first : Word) × (words ≡ first ∷ rest) × PassesOn a c r t (with_spaces (map word_text (first ∷ take i rest))))
    → PassesOn a c r t (with_spaces (map word_text words))
passed_all a c r t words rest i le (first, are, all) =
    let whole : first ∷ take i rest ≡ words = ap (λ ws. first ∷ ws) (take_all i rest le) ∙ sym are in
    subst (λ ws. PassesOn a c r t (with_spaces (map word_text ws))) whole all

-- the sink failed within the first word
pub stops_within_first :
    (a c : SinkState) (r : List ℕ) (words rest : List Word) (first : Word) → words ≡ first ∷ rest
    → StopsWithin a c (r ++ word_text first) → StopsWithin a c (r ++ with_spaces (map word_text words))
stops_within_first a c r words rest first are h =
    let whole : word_text first ++ next_words (map word_text rest) ≡ with_spaces (map word_text words) =
    sym (with_spaces-append (word_text first) [] (map word_text rest)) ∙ ap (λ ws. with_spaces (map word_text ws)) (sym are) in
    subst (λ l. StopsWithin a c (r ++ l)) whole (stops_before a c r (word_text first) (next_words (map word_text rest)) h)

-- the sink failed within one word more
pub stops_within_next :
    (a b c : SinkState) (r s : List ℕ) (words rest : List Word) (i : ℕ) (d : Word) → i < length rest
    → ((first : Word) × (words ≡ first ∷ rest) × PassesOn a b r s (with_spaces (map word_text (first ∷ take i rest))))
    → StopsWithin b c (s ++ 32 ∷ word_text (get_or rest i d))
    → StopsWithin a c (r ++ with_spaces (map word_text words))
stops_within_next a b c r s words rest i d below (first, are, so_far) next =
    let within : StopsWithin a c (r ++ (with_spaces (map word_text (first ∷ take i rest)) ++ 32 ∷ word_text (get_or rest i d))) =
    stops_past a b c r s (with_spaces (map word_text (first ∷ take i rest))) (32 ∷ word_text (get_or rest i d)) so_far next in
    let more : StopsWithin a c (r ++ with_spaces (map word_text (first ∷ take (i + 1) rest))) =
    subst (λ l. StopsWithin a c (r ++ l)) (words_more first rest i d below) within in
    let whole : with_spaces (map word_text (first ∷ take (i + 1) rest)) ++ next_words (map word_text (drop (i + 1) rest)) ≡ with_spaces (map word_text words) =
    sym (words_split first rest (i + 1)) ∙ ap (λ ws. with_spaces (map word_text ws)) (sym are) in
    subst (λ l. StopsWithin a c (r ++ l)) whole (stops_before a c r _ (next_words (map word_text (drop (i + 1) rest))) more)

pub next_words-append : (xs ys : List (List ℕ)) → next_words (xs ++ ys) ≡ next_words xs ++ next_words ys
next_words-append [] ys = refl
next_words-append (x ∷ xs) ys = rw (next_words-append xs ys) (ap (λ t. 32 ∷ t) (sym (append_assoc x (next_words xs) (next_words ys))))

-- the texts of one element more
pub next_words-more : {X : Type 0} (text : X → List ℕ) (xs : List X) (i : ℕ) (d : X) → i < length xs → next_words (map text (take (i + 1) xs)) ≡ next_words (map text (take i xs)) ++ 32 ∷ text (get_or xs i d)
next_words-more text xs i d below =
    ap (λ ys. next_words (map text ys)) (take_more xs i d below)
    ∙ ap next_words (map-append text (take i xs) (get_or xs i d ∷ []))
    ∙ next_words-append (map text (take i xs)) (text (get_or xs i d) ∷ [])
    ∙ ap (λ t. next_words (map text (take i xs)) ++ 32 ∷ t) (append-nil (text (get_or xs i d)))

-- the texts of all elements begin with those up to an index
pub next_words-split : {X : Type 0} (text : X → List ℕ) (xs : List X) (i : ℕ) → next_words (map text (take i xs)) ++ next_words (map text (drop i xs)) ≡ next_words (map text xs)
next_words-split text xs i =
    sym (next_words-append (map text (take i xs)) (map text (drop i xs)))
    ∙ ap next_words (sym (map-append text (take i xs) (drop i xs)))
    ∙ ap (λ ys. next_words (map text ys)) (take-append-drop i xs)

-- the sink failed within the text of one element more
pub stops_within_element :
    {X : Type 0} (text : X → List ℕ) (a b c : SinkState) (r s : List ℕ) (xs : List X) (i : ℕ) (d : X) → i < length xs
    → PassesOn a b r s (next_words (map text (take i xs))) → StopsWithin b c (s ++ 32 ∷ text (get_or xs i d)) → StopsWithin a c (r ++ next_words (map text xs))
stops_within_element text a b c r s xs i d below so_far next =
    let within : StopsWithin a c (r ++ (next_words (map text (take i xs)) ++ 32 ∷ text (get_or xs i d))) =
    stops_past a b c r s (next_words (map text (take i xs))) (32 ∷ text (get_or xs i d)) so_far next in
    let more : StopsWithin a c (r ++ next_words (map text (take (i + 1) xs))) =
    subst (λ l. StopsWithin a c (r ++ l)) (sym (next_words-more text xs i d below)) within in
    subst (λ l. StopsWithin a c (r ++ l)) (next_words-split text xs (i + 1)) (stops_before a c r _ (next_words (map text (drop (i + 1) xs))) more)

-- some words, and more after them
pub lists_with_spaces : (first rest : List (List ℕ)) → 0 < length first → with_spaces (first ++ rest) ≡ with_spaces first ++ next_words rest
lists_with_spaces [] rest some = absurd (omega arith)
lists_with_spaces (word ∷ words) rest some = with_spaces-append word words rest

-- the text of one element more was put into the row
pub passed_element :
    {X : Type 0} (text : X → List ℕ) (a b c : SinkState) (r s t : List ℕ) (xs : List X) (i : ℕ) (d : X) → i < length xs
    → PassesOn a b r s (next_words (map text (take i xs))) → PassesOn b c s t (32 ∷ text (get_or xs i d)) → PassesOn a c r t (next_words (map text (take (i + 1) xs)))
passed_element text a b c r s t xs i d below so_far next =
    subst (PassesOn a c r t) (sym (next_words-more text xs i d below)) (passes_more a b c r s t (next_words (map text (take i xs))) (32 ∷ text (get_or xs i d)) so_far next)

-- ---- elements with some words each

-- the words of one element more
words_of_more : {X : Type 0} (words : X → List (List ℕ)) (xs : List X) (i : ℕ) (d : X) → i < length xs
    → next_words (flat_map words (take (i + 1) xs)) ≡ next_words (flat_map words (take i xs)) ++ next_words (words (get_or xs i d))
words_of_more words xs i d below =
    ap (λ ys. next_words (flat_map words ys)) (take_more xs i d below)
    ∙ ap next_words (flat_map-append words (take i xs) (get_or xs i d ∷ []) ∙ ap (λ l. flat_map words (take i xs) ++ l) (append-nil (words (get_or xs i d))))
    ∙ next_words-append (flat_map words (take i xs)) (words (get_or xs i d))

-- .. were put into the row
pub passed_words :
    {X : Type 0} (words : X → List (List ℕ)) (a b c : SinkState) (r s t : List ℕ) (xs : List X) (i : ℕ) (d : X) → i < length xs
    → PassesOn a b r s (next_words (flat_map words (take i xs))) → PassesOn b c s t (next_words (words (get_or xs i d))) → PassesOn a c r t (next_words (flat_map words (take (i + 1) xs)))
passed_words words a b c r s t xs i d below so_far next =
    subst (PassesOn a c r t) (sym (words_of_more words xs i d below)) (passes_more a b c r s t (next_words (flat_map words (take i xs))) (next_words (words (get_or xs i d))) so_far next)

-- the sink failed within them
pub stops_within_words :
    {X : Type 0} (words : X → List (List ℕ)) (a b c : SinkState) (r s : List ℕ) (xs : List X) (i : ℕ) (d : X) → i < length xs
    → PassesOn a b r s (next_words (flat_map words (take i xs))) → StopsWithin b c (s ++ next_words (words (get_or xs i d))) → StopsWithin a c (r ++ next_words (flat_map words xs))
stops_within_words words a b c r s xs i d below so_far next =
    let within : StopsWithin a c (r ++ (next_words (flat_map words (take i xs)) ++ next_words (words (get_or xs i d)))) =
    stops_past a b c r s (next_words (flat_map words (take i xs))) (next_words (words (get_or xs i d))) so_far next in
    let more : StopsWithin a c (r ++ next_words (flat_map words (take (i + 1) xs))) =
    subst (λ l. StopsWithin a c (r ++ l)) (sym (words_of_more words xs i d below)) within in
    let whole : next_words (flat_map words (take (i + 1) xs)) ++ next_words (flat_map words (drop (i + 1) xs)) ≡ next_words (flat_map words xs) =
    sym (next_words-append (flat_map words (take (i + 1) xs)) (flat_map words (drop (i + 1) xs)))
    ∙ ap next_words (sym (flat_map-append words (take (i + 1) xs) (drop (i + 1) xs)))
    ∙ ap (λ ys. next_words (flat_map words ys)) (take-append-drop (i + 1) xs) in
    subst (λ l. StopsWithin a c (r ++ l)) whole (stops_before a c r _ (next_words (flat_map words (drop (i + 1) xs))) more)
