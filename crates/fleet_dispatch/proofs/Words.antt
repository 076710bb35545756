-- What is carried out by the words of a report, one after another.
use Rattle.fleet_dispatch.proofs.Cited.{◌≡◌, ◌≢◌, ℕ, zero, suc, ◌+◌, ◌<◌, ◌≤◌, ◌⊎◌, ◌++◌, Bool, true, false, [], ◌∷◌, length, get_or, set, map, take, Option, Some, None, All, refl, ap, sym, ◌∙◌, subst, arith, inl, inr, add-one, leb-true, length-set, get_or-set_same, get_or-set_other, nat_lt, nat_le, slice_get, option_map_or, list_all, cases_lt, cases_eq, and_parts, lt-ltb, ltb-true, take_more, take_all, length-map, get_or-map, get_or-take, get_or_past, length-take, AllPairs-from_increasing, slice_get_cases, Reported, Words, IsRising, Counts, count_of, said_of, raised, counts_after, is_repeat}

-- ---- one word

module _ (counts : Counts) (i n : ℕ) where
  pub length_raised : length (raised counts i n) ≡ length counts
  length_raised = go (nat_lt (count_of counts i) n) refl
    where
      go : (b : Bool) → nat_lt (count_of counts i) n ≡ b → length (raised counts i n) ≡ length counts
      go true e = rw e (length-set counts i n)
      go false e = rw e refl

  pub raised_there : (j : ℕ) → j ≢ i → count_of (raised counts i n) j ≡ count_of counts j
  raised_there j ne = go (nat_lt (count_of counts i) n) refl
    where
      go : (b : Bool) → nat_lt (count_of counts i) n ≡ b → count_of (raised counts i n) j ≡ count_of counts j
      go true e = rw e (get_or-set_other counts i j n 0 ne)
      go false e = rw e refl

  pub raised_same : n ≤ count_of counts i → raised counts i n ≡ counts
  raised_same le = go (nat_lt (count_of counts i) n) refl
    where
      go : (b : Bool) → nat_lt (count_of counts i) n ≡ b → raised counts i n ≡ counts
      go true e = absurd (let l = ltb-true _ _ e in omega (arith, l))
      go false e = rw e refl

  pub raised_set : count_of counts i < n → raised counts i n ≡ set counts i n
  raised_set l = rw (lt-ltb (count_of counts i) n l) refl

  -- agent i has carried out n, or as many as before
  pub raised_here : i < length counts → ((count_of (raised counts i n) i ≡ n) × (count_of counts i < n)) ⊎ ((count_of (raised counts i n) i ≡ count_of counts i) × (n ≤ count_of counts i))
  raised_here inside = elim (cases_lt (count_of counts i) n) [
    | inl l ↦ inl (ap (λ (c : Counts). count_of c i) (raised_set l) ∙ get_or-set_same counts i n 0 inside, l)
    | inr le ↦ inr (ap (λ (c : Counts). count_of c i) (raised_same le), le)
  ]

-- ---- the words, one after another

pub after_more : (counts : Counts) (words : Words) (w : Reported) → counts_after counts (words ++ w ∷ []) ≡ raised (counts_after counts words) w.agent (said_of (counts_after counts words) w)
after_more counts [] w = refl
after_more counts (v ∷ words) w = after_more (raised counts v.agent (said_of counts v)) words w

pub after_one_more : (counts : Counts) (words : Words) (j : ℕ) (w : Reported) → j < length words → get_or words j w ≡ w
    → counts_after counts (take (j + 1) words) ≡ raised (counts_after counts (take j words)) w.agent (said_of (counts_after counts (take j words)) w)
after_one_more counts words j w l e =
    ap (counts_after counts) (take_more words j w l ∙ ap (λ (x : Reported). take j words ++ x ∷ []) e) ∙ after_more counts (take j words) w

pub length_after : (counts : Counts) (words : Words) → length (counts_after counts words) ≡ length counts
length_after counts [] = refl
length_after counts (w ∷ words) = length_after (raised counts w.agent (said_of counts w)) words ∙ length_raised counts w.agent (said_of counts w)

-- an agent that no word names has carried out what it had
pub untouched : (counts : Counts) (words : Words) (i : ℕ) → All (λ w. w.agent ≢ i) words → count_of (counts_after counts words) i ≡ count_of counts i
untouched counts [] i none = refl
untouched counts (w ∷ words) i none =
    let other : w.agent ≢ i = none 0 w (omega arith) in
    untouched (raised counts w.agent (said_of counts w)) words i (λ k d l. none (suc k) d (omega arith))
    ∙ raised_there counts w.agent (said_of counts w) i (λ e. other (sym e))

module _ (counts : Counts) (words : Words) (rising : IsRising words) where
  -- the words before name earlier agents
  earlier : (j : ℕ) (w : Reported) → j < length words → get_or words j w ≡ w → All (λ v. v.agent ≢ w.agent) (take j words)
  earlier j w l e k d inside same =
      let n : k < j = omega (arith, length-take j words) in
      let at : get_or (take j words) k d ≡ get_or words k d = get_or-take j words k d n in
      let pairs = AllPairs-from_increasing (map (λ (v : Reported). v.agent) words) rising k j 0 n (omega (arith, length-map words (λ (v : Reported). v.agent))) in
      let low : get_or (map (λ (v : Reported). v.agent) words) k 0 ≡ (get_or words k d).agent = named k d (omega arith) in
      let high : get_or (map (λ (v : Reported). v.agent) words) j 0 ≡ w.agent = named j w l ∙ ap (λ (v : Reported). v.agent) e in
      absurd (omega (arith, pairs, low, high, same, ap (λ (v : Reported). v.agent) at))
    where
      named : (m : ℕ) (d : Reported) → m < length words → get_or (map (λ (v : Reported). v.agent) words) m 0 ≡ (get_or words m d).agent
      named m d l = get_or-map (λ (v : Reported). v.agent) words m d 0 l

  -- so each word says what it said of the counts before the report
  pub said_same : (j : ℕ) (w : Reported) → j < length words → get_or words j w ≡ w → count_of (counts_after counts (take j words)) w.agent ≡ count_of counts w.agent
  said_same j w l e = untouched counts (take j words) w.agent (earlier j w l e)

-- ---- repeats

module _ (counts : Counts) where
  all_old : (words : Words) → list_all (λ x. nat_le (said_of counts x) (count_of counts x.agent)) words ≡ true → counts_after counts words ≡ counts
  all_old [] e = refl
  all_old (w ∷ words) e =
      let both = and_parts (nat_le (said_of counts w) (count_of counts w.agent)) (list_all (λ x. nat_le (said_of counts x) (count_of counts x.agent)) words) e in
      ap (λ (c : Counts). counts_after c words) (raised_same counts w.agent (said_of counts w) (leb-true _ _ both.0)) ∙ all_old words both.1

  -- a repeat changes nothing
  pub repeat_changes_nothing : (words : Words) → is_repeat counts words ≡ true → counts_after counts words ≡ counts
  repeat_changes_nothing [] e = absurd cc
  repeat_changes_nothing (w ∷ words) e = all_old (w ∷ words) e

-- ---- no agent has carried out less, and none more than a bound that no word goes beyond

pub raised_grows : (counts : Counts) (i n j : ℕ) → count_of counts j ≤ count_of (raised counts i n) j
raised_grows counts i n j = elim (cases_lt (count_of counts i) n) [
  | inr le ↦ omega (arith, ap (λ (c : Counts). count_of c j) (raised_same counts i n le))
  | inl l ↦ elim (cases_eq j i) [
    | inr ne ↦ omega (arith, raised_there counts i n j ne)
    | inl same ↦ elim (cases_lt i (length counts)) [
      | inr past ↦ (let none : count_of counts j ≡ 0 = get_or_past counts j 0 (omega arith) in omega arith)
      | inl inside ↦ (
          let here : count_of (raised counts i n) i ≡ n = ap (λ (c : Counts). count_of c i) (raised_set counts i n l) ∙ get_or-set_same counts i n 0 inside in
          omega (arith, here, ap (count_of counts) same, ap (count_of (raised counts i n)) same))
    ]
  ]
]

pub after_grows : (counts : Counts) (words : Words) (j : ℕ) → count_of counts j ≤ count_of (counts_after counts words) j
after_grows counts [] j = omega arith
after_grows counts (w ∷ words) j = omega (arith, raised_grows counts w.agent (said_of counts w) j, after_grows (raised counts w.agent (said_of counts w)) words j)

said_as : (a b : Counts) (w : Reported) → count_of a w.agent ≡ count_of b w.agent → said_of a w ≡ said_of b w
said_as a b w e = by_number w.number
  where
    by_number : (o : Option ℕ) → option_map_or (λ n. n) o (count_of a w.agent + 1) ≡ option_map_or (λ n. n) o (count_of b w.agent + 1)
    by_number None = ap (λ x. x + 1) e
    by_number (Some n) = refl

pub raised_bounded : (counts : Counts) (i n j bound : ℕ) → (j ≡ i → n ≤ bound) → count_of counts j ≤ bound → count_of (raised counts i n) j ≤ bound
raised_bounded counts i n j bound high low = elim (cases_lt (count_of counts i) n) [
  | inr le ↦ omega (arith, ap (λ (c : Counts). count_of c j) (raised_same counts i n le))
  | inl l ↦ elim (cases_eq j i) [
    | inr ne ↦ omega (arith, raised_there counts i n j ne)
    | inl same ↦ elim (cases_lt i (length counts)) [
      | inr past ↦ (let none : count_of (raised counts i n) j ≡ 0 = get_or_past (raised counts i n) j 0 (omega (arith, length_raised counts i n)) in omega arith)
      | inl inside ↦ (
          let here : count_of (raised counts i n) i ≡ n = ap (λ (c : Counts). count_of c i) (raised_set counts i n l) ∙ get_or-set_same counts i n 0 inside in
          omega (arith, here, high same, ap (count_of (raised counts i n)) same))
    ]
  ]
]

-- so each word says the same then
pub said_then : (counts : Counts) (words : Words) → IsRising words → (j : ℕ) (w : Reported) → j < length words → get_or words j w ≡ w → said_of (counts_after counts (take j words)) w ≡ said_of counts w
said_then counts words rising j w l e = said_as (counts_after counts (take j words)) counts w (said_same counts words rising j w l e)

module _ (counts : Counts) (words : Words) (rising : IsRising words) (bound : ℕ → ℕ) (said : All (λ w. said_of counts w ≤ bound w.agent) words) (low : (i : ℕ) → count_of counts i ≤ bound i) where
  bounded_to : (j : ℕ) → j ≤ length words → (i : ℕ) → count_of (counts_after counts (take j words)) i ≤ bound i
  bounded_to zero le i = low i
  bounded_to (suc j) le i = one (bounded_to j (omega arith) i) (slice_get_cases words j).1
    where
      one : count_of (counts_after counts (take j words)) i ≤ bound i → ((x : Reported) × (j < length words) × (slice_get words j ≡ Some x) × (get_or words j x ≡ x)) ⊎ ((length words ≤ j) × (slice_get words j ≡ None))
          → count_of (counts_after counts (take (suc j) words)) i ≤ bound i
      one before (inr past) = absurd (omega (arith, past.0))
      one before (inl found) =
          let w : Reported = found.0 in
          let l : j < length words = found.1 in
          let at : get_or words j w ≡ w = found.3 in
          let here : said_of (counts_after counts (take j words)) w ≡ said_of counts w = said_as (counts_after counts (take j words)) counts w (said_same counts words rising j w l at) in
          let ordered : said_of counts w ≤ bound w.agent = subst (λ (x : Reported). said_of counts x ≤ bound x.agent) at (said j w l) in
          let next : counts_after counts (take (j + 1) words) ≡ raised (counts_after counts (take j words)) w.agent (said_of (counts_after counts (take j words)) w) = after_one_more counts words j w l at in
          let within : count_of (raised (counts_after counts (take j words)) w.agent (said_of (counts_after counts (take j words)) w)) i ≤ bound i =
          raised_bounded (counts_after counts (take j words)) w.agent (said_of (counts_after counts (take j words)) w) i (bound i) (λ same. omega (arith, here, ordered, ap bound same)) before in
          omega (arith, within, ap (λ m. count_of (counts_after counts (take m words)) i) (add-one j), ap (λ (c : Counts). count_of c i) next)

  pub after_bounded : (i : ℕ) → count_of (counts_after counts words) i ≤ bound i
  after_bounded i = omega (arith, bounded_to (length words) (omega arith) i, ap (λ (ws : Words). count_of (counts_after counts ws) i) (take_all (length words) words (omega arith)))
