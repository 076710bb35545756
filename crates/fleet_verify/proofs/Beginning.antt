-- The agents one after another: on their starts, and at their ends.
use Rattle.fleet_verify.proofs.Words.{◌≡◌, ℕ, zero, suc, ◌+◌, ◌-◌, ◌<◌, ◌≤◌, Bool, List, [], ◌∷◌, ◌++◌, length, get_or, slice_index, Option, refl, sym, ap, ◌∙◌, subst, arith, inl, inr, ◌⊎◌, All, IsTrue, cases_eq, cases_lt, get_or_append_left, get_or-append_right, length-append, Cell, Place, ActionId, Visit, Task, IsNumbering, IsLongestChain, IsFinish, place_of, Program, origin, start_of, moves, path, AreInRange, IsWellFormed, own_reach, Reaches-rises, Ground, is_passable, max, get_or-append_seam, AreCountedUp, IsTop, IsAhead, AreBegun, AreDone, count_in, level_in, IsChained, EnterApart, HasStarts, HasRanges, EndsRight, StandsRight, AreVisits, kept_at, AreAddedBy, Ahead, OpenPair, HasLevels}
use Rattle.fleet_verify.specs.Parts.{IsAcceptedFor}
use Rattle.fleet_verify.proofs.Begin.{begun_none, begun_more, begun_ground, begun_visits, begun_apart, begun_chained}
use Rattle.fleet_verify.proofs.RunCounts.{longest_finishes}
use Rattle.fleet_verify.proofs.Ordered.{none_ranked, all_counted, all_in_range, top_longest}
use Rattle.fleet_verify.proofs.Levels.{counted_numbers, counted_levels}
use Rattle.fleet_verify.proofs.Stays.{accepted_by}

-- 1 for the agents below n, and 0 for the others
abbrev pub started : ℕ → ℕ → ℕ
started n i = (n - i) - (n - i - 1)

-- the first n agents are on their starts
pub record IsBeginning (passable : Place → Bool) (p : Program) (n : ℕ) (a : Ahead) : Type 0 where
  pub rows : length a.rows.items ≡ n
  pub cells : length a.cells.items ≡ n
  pub none : (i : ℕ) → get_or a.rows.items i [] ≡ []
  pub here : (i : ℕ) → i < n → get_or a.cells.items i origin ≡ start_of p i
  pub begun : AreBegun passable p (started n) (kept_at a.last) a.pairs.items

pub beginning_first : (passable : Place → Bool) (p : Program) (a : Ahead) → a.rows.items ≡ [] → a.cells.items ≡ [] → AreAddedBy p [] (kept_at a.last) a.pairs.items → IsBeginning passable p 0 a
beginning_first passable p a rows cells added = record {
  rows = ap (λ (xs : List (List ℕ)). length xs) rows;
  cells = ap (λ (xs : List Cell). length xs) cells;
  none = λ i. ap (λ (xs : List (List ℕ)). get_or xs i []) rows;
  here = λ i l. absurd (omega arith);
  begun = begun_none passable p (started 0) (kept_at a.last) a.pairs.items (λ i l. omega arith) added;
}

pub beginning_more : (passable : Place → Bool) (p : Program) (n : ℕ) (old new : Ahead) (cell : Cell) → IsBeginning passable p n old → n < length p → cell ≡ start_of p n → IsTrue (passable (place_of cell))
    → new.rows.items ≡ old.rows.items ++ [] ∷ [] → new.cells.items ≡ old.cells.items ++ cell ∷ []
    → ((visits : List Visit) → AreAddedBy p visits (kept_at old.last) old.pairs.items → AreAddedBy p (visits ++ record { agent = n; position = 0 } ∷ []) (kept_at new.last) new.pairs.items) → IsBeginning passable p (n + 1) new
beginning_more passable p n old new cell h agent start ground rows cells added = record {
  rows = ap (λ (xs : List (List ℕ)). length xs) rows ∙ (length-append old.rows.items ([] ∷ []) ∙ ap (λ m. m + 1) h.rows);
  cells = ap (λ (xs : List Cell). length xs) cells ∙ (length-append old.cells.items (cell ∷ []) ∙ ap (λ m. m + 1) h.cells);
  none = λ i. ap (λ (xs : List (List ℕ)). get_or xs i []) rows ∙ none i;
  here = λ i l. ap (λ (xs : List Cell). get_or xs i origin) cells ∙ here i l;
  begun = begun_more passable p (started n) (started (n + 1)) n (kept_at old.last) (kept_at new.last) old.pairs.items new.pairs.items h.begun agent (omega arith) (λ j ne. omega arith)
      (subst (λ (m : ℕ). StandsRight passable p n m) zero_of (subst (λ (c : Cell). IsTrue (passable (place_of c))) start ground))
      (subst (λ (m : ℕ). (visits : List Visit) → AreAddedBy p visits (kept_at old.last) old.pairs.items → AreAddedBy p (visits ++ record { agent = n; position = m } ∷ []) (kept_at new.last) new.pairs.items) zero_of added);
}
  where
    zero_of : 0 ≡ started n n
    zero_of = omega arith

    one : (k : ℕ) → get_or ([] ∷ []) k [] ≡ ◌++◌ {A = ℕ} [] []
    one zero = refl
    one (suc k) = refl

    none : (i : ℕ) → get_or (old.rows.items ++ [] ∷ []) i [] ≡ []
    none i = elim (cases_lt i n) [
      | inl l ↦ get_or_append_left old.rows.items ([] ∷ []) [] i (omega (arith, l, h.rows)) ∙ h.none i
      | inr l ↦ get_or-append_right old.rows.items ([] ∷ []) n i [] h.rows l ∙ one (i - n)
    ]

    here : (i : ℕ) → i < n + 1 → get_or (old.cells.items ++ cell ∷ []) i origin ≡ start_of p i
    here i l = elim (cases_lt i n) [
      | inl k ↦ get_or_append_left old.cells.items (cell ∷ []) origin i (omega (arith, k, h.cells)) ∙ h.here i k
      | inr k ↦
          let e : i ≡ length old.cells.items = omega (arith, k, h.cells) in
          let f : n ≡ i = omega (arith, k) in
          ap (λ m. get_or (old.cells.items ++ cell ∷ []) m origin) e ∙ (get_or-append_seam old.cells.items cell [] origin ∙ (start ∙ ap (start_of p) f))
    ]

begun_same : (passable : Place → Bool) (p : Program) (old new : ℕ → ℕ) (last : Cell → Option Visit) (pairs : List OpenPair) → AreBegun passable p old last pairs → ((i : ℕ) → i < length p → new i ≡ old i) → AreBegun passable p new last pairs
begun_same passable p old new last pairs h same = record {
  positions = h.positions;
  all = λ v a l. h.all v a (omega (arith, l, same v.agent a));
  only = λ v c. let r = h.only v c in (r.0, omega (arith, r.1, same v.agent r.0));
  distinct = h.distinct;
  on_ground = λ i n a l. h.on_ground i n a (omega (arith, l, same i a));
  added = h.added;
}

pub beginning_all : (passable : Place → Bool) (p : Program) (n : ℕ) (a : Ahead) → IsBeginning passable p n a → n ≡ length p → IsAhead passable p a
beginning_all passable p n a h all = record {
  rows = h.rows ∙ all;
  cells = h.cells ∙ all;
  ranked = none_ranked p a.rows.items zeros;
  here = λ i l. ap place_of (h.here i (omega (arith, l, all))) ∙ ap (path p i) (sym (zeros i));
  begun = begun_same passable p (started n) (λ i. count_in a.rows.items i + 1) (kept_at a.last) a.pairs.items h.begun (λ i l. omega (arith, zeros i, l, all));
}
  where
    zeros : (i : ℕ) → count_in a.rows.items i ≡ 0
    zeros i = ap (λ (row : List ℕ). length row) (h.none i)

-- ---- the ends

pub done_more : (tasks : List Task) (p : Program) (rows : List (List ℕ)) (n chain : ℕ) → AreDone tasks p rows n chain → count_in rows n ≡ moves p n → EndsRight tasks p n
    → (last new : ℕ) → last ≡ slice_index (get_or rows n []) (count_in rows n - 1) → new ≡ max chain last → AreDone tasks p rows (n + 1) new
done_more tasks p rows n chain h whole ends last new is e = record {
  whole = λ i l. elim (cases_eq i n) [ inl f ↦ subst (λ j. count_in rows j ≡ moves p j) (sym f) whole | inr ne ↦ h.whole i (omega (arith, l, ne)) ];
  ends = λ i l. elim (cases_eq i n) [ inl f ↦ subst (EndsRight tasks p) (sym f) ends | inr ne ↦ h.ends i (omega (arith, l, ne)) ];
  some = some (cases_lt chain last);
  most = λ i l. elim (cases_eq i n) [
    | inl f ↦ subst (λ j. slice_index (get_or rows j []) (count_in rows j - 1) ≤ new) (sym f) (omega (arith, is, high))
    | inr ne ↦ omega (arith, h.most i (omega (arith, l, ne)), low)
  ];
}
  where
    low : chain ≤ new
    low = grind (arith, e)

    high : last ≤ new
    high = grind (arith, e)

    some : (chain < last) ⊎ (last ≤ chain) → (new ≡ 0) ⊎ ((a : ActionId) × (a.agent < n + 1) × (1 ≤ a.number) × (a.number ≤ count_in rows a.agent) × (new ≡ level_in rows a))
    some (inr l) =
        let f : new ≡ chain = grind (arith, e, l) in
        elim h.some [ inl z ↦ inl (f ∙ z) | inr (a, k, o, m, g) ↦ inr (a, omega (arith, k), o, m, f ∙ g) ]
    some (inl l) =
        let f : new ≡ last = grind (arith, e, l) in
        elim (cases_eq (count_in rows n) 0) [
          | inl none ↦ inl (f ∙ (is ∙ ap (λ (row : List ℕ). slice_index row (count_in rows n - 1)) (Rattle.fleet_verify.proofs.Ordered.no_entries (get_or rows n []) none)))
          | inr ne ↦ inr (record { agent = n; number = count_in rows n }, omega arith, omega (arith, ne), omega arith, f ∙ is)
        ]

module _ (grid : Ground) (tasks : List Task) (p : Program) (a : Ahead) (n chain : ℕ) (wf : IsWellFormed p) (starts : HasStarts tasks p) (h : IsAhead (is_passable grid) p a)
    (done : AreDone tasks p a.rows.items n chain) (all : length p ≤ n) where
  abbrev passable : Place → Bool
  passable = is_passable grid

  abbrev rows : List (List ℕ)
  rows = a.rows.items

  abbrev level : ActionId → ℕ
  level = level_in rows

  whole : (i : ℕ) → i < length p → count_in rows i ≡ moves p i
  whole i l = done.whole i (omega (arith, l, all))

  abbrev begun : ℕ → ℕ
  begun i = count_in rows i + 1

  come : (i : ℕ) → i < length p → begun i ≡ moves p i + 1
  come i l = ap (λ m. m + 1) (whole i l)

  pub done_counted : AreCountedUp p level
  done_counted = all_counted p rows h.ranked whole

  numbering : IsNumbering p level
  numbering = counted_numbers p level done_counted

  pub done_range : AreInRange p
  done_range = all_in_range p rows h.ranked whole wf

  ranges : HasRanges passable tasks p
  ranges = record {
    before = record { before = record { before = starts; ends = λ i l. done.ends i (omega (arith, l, all)) }; steps = begun_ground passable p begun (kept_at a.last) a.pairs.items h.begun come };
    ranges = λ i m l k. record { met = done_range i m };
  }

  top : IsTop p level chain
  top = record {
    some = elim done.some [
      | inl z ↦ inl z
      | inr (b, k, o, m, g) ↦ inr (b, Rattle.fleet_verify.proofs.Ordered.is_action p rows h.ranked.within b (record { first = o; last = m }), g)
    ];
    most = λ b act.
        let last : ActionId = record { agent = b.agent; number = moves p b.agent } in
        let up : level b ≤ level last = Reaches-rises p level numbering b last (own_reach p b.agent b.number (moves p b.agent) act.agent act.first act.last (omega arith)) in
        let high : slice_index (get_or rows b.agent []) (count_in rows b.agent - 1) ≤ chain = done.most b.agent (omega (arith, act.agent, all)) in
        let same : level last ≡ slice_index (get_or rows b.agent []) (count_in rows b.agent - 1) = ap (λ m. slice_index (get_or rows b.agent []) (m - 1)) (sym (whole b.agent act.agent)) in
        omega (arith, up, high, same);
  }

  longest : IsLongestChain p chain
  longest = top_longest p level done_counted chain top

  pub done_finish : IsFinish p [] chain
  done_finish = longest_finishes p done_range chain longest

  pub done_visits : All (AreVisits p) a.pairs.items
  done_visits = begun_visits passable p begun (kept_at a.last) a.pairs.items h.begun come

  pub done_apart : EnterApart a.pairs.items
  done_apart = begun_apart passable p begun (kept_at a.last) a.pairs.items h.begun

  pub done_levels : HasLevels p rows
  done_levels = record { all = h.rows; whole = whole; each = counted_levels p level done_counted }

  pub ahead_accepted : ((k : ℕ) (o : OpenPair) → k < length a.pairs.items → IsChained p (get_or a.pairs.items k o)) → IsAcceptedFor grid tasks p chain
  ahead_accepted chained = record {
    accepted = accepted_by passable tasks p ranges (level, numbering) (begun_chained passable p begun (kept_at a.last) a.pairs.items h.begun come done_range chained);
    longest = longest;
  }
