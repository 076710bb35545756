-- The next line among bytes that were read.
use Rattle.fleet_dispatch.proofs.Cited.{◌≡◌, ℕ, ◌+◌, ◌≤◌, ◌<◌, ◌++◌, Bool, true, false, not, List, length, take, drop, Option, Some, None, Result, Ok, Err, ltb, refl, sym, ap, subst, ◌∙◌, arith, inl, inr, length-append, take-append-le, drop-append-le, take-append-drop, length-take-le, length-drop, prefix_len-append, cases_Bool, ltb-false, lt-ltb, le-ltb, eq-eqb, cond-true, position-Some, position_or_len_is, fails_before_first, prefix_len-le-length, get_or-append, position, IfSome, position_or_len, strip_carriage_return, prepend_known, Keeps, IsErrAnd, is_lf, found_at, found_nowhere, ReportForm, LINE_ROOM, Words, Line, line_of, LineKind, HasLine, GivesLine, IsMisheard, EndsLine, HearsLine, HearFault}
use Rattle.fleet_dispatch.specs.declared.floor.HearFault.TheVariants as h

-- where the first byte that passes stands, if none of the first k bytes passes
position_behind : (p : ℕ → Bool) (xs : List ℕ) (k : ℕ) → k ≤ length xs → position p (take k xs) ≡ None → position_or_len p xs ≡ k + position_or_len p (drop k xs)
position_behind p xs k le none =
    let long : length (take k xs) ≡ k = length-take-le k xs le in
    let all : position_or_len p (take k xs) ≡ length (take k xs) = omega (arith, found_nowhere p (take k xs) none, prefix_len-le-length (λ x. not (p x)) (take k xs)) in
    ap (position_or_len p) (sym (take-append-drop k xs)) ∙ prefix_len-append (λ x. not (p x)) (take k xs) (drop k xs)
    ∙ cond-true _ _ _ (eq-eqb (position_or_len p (take k xs)) (length (take k xs)) all) ∙ ap (λ n. n + position_or_len p (drop k xs)) long

pub some_behind : (p : ℕ → Bool) (xs : List ℕ) (k i : ℕ) → k ≤ length xs → position p (take k xs) ≡ None → position p (drop k xs) ≡ Some i → position p xs ≡ Some (k + i)
some_behind p xs k i le none e =
    let at = found_at p (drop k xs) i e in
    let here : position_or_len p xs ≡ k + i = position_behind p xs k le none ∙ ap (λ n. k + n) at.0 in
    let within : ltb (k + i) (length xs) ≡ true = lt-ltb _ _ (omega (arith, at, length-drop k xs)) in
    rw (here, within) refl

pub none_behind : (p : ℕ → Bool) (xs : List ℕ) (k : ℕ) → k ≤ length xs → position p (take k xs) ≡ None → position p (drop k xs) ≡ None → position p xs ≡ None
none_behind p xs k le none e =
    let past = found_nowhere p (drop k xs) e in
    let outside : ltb (position_or_len p xs) (length xs) ≡ false = le-ltb _ _ (omega (arith, past, length-drop k xs, position_behind p xs k le none)) in
    rw outside refl

found_before : (p : ℕ → Bool) (xs ys : List ℕ) (i : ℕ) → position p xs ≡ Some i → position p (xs ++ ys) ≡ Some i
found_before p xs ys i e =
    let at = position-Some p xs i 0 e in
    let long : i < length (xs ++ ys) = omega (arith, length-append xs ys, at.0) in
    let here : position_or_len p (xs ++ ys) ≡ i = position_or_len_is p (xs ++ ys) i 0 (omega (arith, long))
    (λ k before. ap p (get_or-append xs ys 0 k (omega (arith, at.0))) ∙ at.2 k before)
    (λ inside. ap p (get_or-append xs ys 0 i at.0) ∙ at.1) in
    rw here (elim (cases_Bool (ltb i (length (xs ++ ys)))) [
      | inl t ↦ rw t refl
      | inr t ↦ absurd (let h = ltb-false _ _ t in omega (arith, long))
    ])

-- the first line, if it ends within what was read
first_line : (read more : List ℕ) (end : ℕ) → position is_lf read ≡ Some end → HasLine (read ++ more) (strip_carriage_return (take end read)) (drop (end + 1) read ++ more)
first_line read more end e =
    let at = position-Some is_lf read end 0 e in
    record {
      end = end;
      ends = found_before is_lf read more end e;
      line_is = ap strip_carriage_return (sym (take-append-le end read more (omega (arith, at.0))));
      rest_is = sym (drop-append-le (end + 1) read more (omega (arith, at.0)));
    }

module _ (form : ReportForm) where
  -- a line that is a report or the question
  pub heard : (a : Option (List ℕ)) (read : List ℕ) (left : Option (List ℕ)) (end : ℕ) (said : Line) → Keeps a (prepend_known read left) → position is_lf read ≡ Some end
      → line_of form (strip_carriage_return (take end read)) ≡ Some said → GivesLine form a (prepend_known (drop (end + 1) read) left) said
  heard None read left end said k e says = tt
  heard (Some t) read None end said k e says = absurd k
  heard (Some t) read (Some more) end said k e says =
      (strip_carriage_return (take end read), subst (λ (x : List ℕ). HasLine x (strip_carriage_return (take end read)) (drop (end + 1) read ++ more)) k (first_line read more end e), says)

  -- a line that is none
  pub misheard : (a : Option (List ℕ)) (read : List ℕ) (left : Option (List ℕ)) (end : ℕ) → Keeps a (prepend_known read left) → position is_lf read ≡ Some end
      → line_of form (strip_carriage_return (take end read)) ≡ None → IfSome a (IsMisheard form)
  misheard None read left end k e none = tt
  misheard (Some t) read None end k e none = absurd k
  misheard (Some t) read (Some more) end k e none =
      inl (strip_carriage_return (take end read), drop (end + 1) read ++ more, subst (λ (x : List ℕ). HasLine x (strip_carriage_return (take end read)) (drop (end + 1) read ++ more)) k (first_line read more end e), none)

  -- more bytes than are heard of a line, without an end
  too_long : (read more : List ℕ) → position is_lf read ≡ None → LINE_ROOM ≤ length read → IsMisheard form (read ++ more)
  too_long read more none long = inr (
    omega (arith, length-append read more),
    λ k l. let inside : k < length read = omega arith in
        let far = found_nowhere is_lf read none in
        ap is_lf (get_or-append read more 0 k inside) ∙ fails_before_first is_lf read k 0 (omega (arith, far)),
  )

  -- no line was found
  pub unfound : (a b left : Option (List ℕ)) (read : List ℕ) (e : HearFault) (r : Result (Option LineKind) HearFault) (words : Words) → IsErrAnd r (λ x. x ≡ e)
      → Keeps a (prepend_known read left) → EndsLine left read (Err e) → HearsLine form a b r words
  unfound a b left read e (Ok x) words same k ends = absurd same
  unfound a b left read h.Form (Err f) words same k ends = subst (λ x. HearsLine form a b (Err x) words) (sym same) (long_line a left k ends)
    where
      long_line : (a left : Option (List ℕ)) → Keeps a (prepend_known read left) → EndsLine left read (Err h.Form) → IfSome a (IsMisheard form)
      long_line None left k ends = tt
      long_line (Some t) None k ends = absurd k
      long_line (Some t) (Some more) k ends = subst (IsMisheard form) k (too_long read more ends.0 ends.1)
  unfound a b left read h.Broken (Err f) words same k ends = subst (λ x. HearsLine form a b (Err x) words) (sym same) tt
