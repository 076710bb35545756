-- How far actions are looked at, and what they need.
use Rattle.fleet_verify.proofs.Words.{inl, inr, ◌≡◌, ℕ, ◌+◌, ◌<◌, List, [], ◌∷◌, ◌++◌, length, refl, ◌-◌, sym, ap, ◌∙◌, subst, arith, ◌≢◌, ◌≤◌, slice_index, set, Some, slice_get, get_or-set_same, get_or-set_other, ActionId, Visit, Program, moves, total_moves, awaits_of, AreInRange, IsAction, Reaches, DirectlyNeeds, entering, IsVisit, Reaches-first, Reaches-trans, Reaches-last, Reaches-need, Reaches-kept, own_reach, IsNeededFor, ◌⊎◌, Contains, cases_eq, cases_lt, map-append, length_push, get_or_push, get_or_append_left, Await, sum_by-le-sum_by, same_Some, slice_get-get_or, slice_get_within, get_or_from_slice_get, length-set, indices, IsBlocked, IsUnmet, want_at, AreWants, down_from, indices-more, IsRaised, IsLooking, looked_sum, AreNeeded, AreTwoVisits, AreZeros}
use Rattle.fleet_verify.proofs.RunCounts.{sum_rises, sum_of_moves}

pub needed_action : (p : Program) (v w : Visit) (a : ActionId) → IsNeededFor p v w a → IsAction p a
needed_action p v w a (inl r) = Reaches-first p a (entering v) r
needed_action p v w a (inr r) = Reaches-first p a (entering w) r

-- what is needed for a needed action is needed
pub needed_on : (p : Program) (v w : Visit) (a b : ActionId) → Reaches p a b → IsNeededFor p v w b → IsNeededFor p v w a
needed_on p v w a b r (inl k) = inl (Reaches-trans p a b (entering v) r k)
needed_on p v w a b r (inr k) = inr (Reaches-trans p a b (entering w) r k)

pub record AreWantsBelow (p : Program) (counts : List ℕ) (wants : List Await) (n : ℕ) : Type 0 where
  pub all : length wants ≡ n
  pub each : (i : ℕ) → i < n → IsBlocked p counts i → IsUnmet p counts i (want_at wants i)

pub wants_none : (p : Program) (counts : List ℕ) → AreWantsBelow p counts [] 0
wants_none p counts = record { all = refl; each = λ i below blocked. absurd (omega arith) }

pub wants_more : (p : Program) (counts : List ℕ) (wants : List Await) (n : ℕ) (w : Await) → AreWantsBelow p counts wants n → (IsBlocked p counts n → IsUnmet p counts n w) → AreWantsBelow p counts (wants ++ w ∷ []) (n + 1)
wants_more p counts wants n w h here = record { all = length_push wants w ∙ ap (λ m. m + 1) h.all; each = λ i l b. at i l b (cases_eq i n) }
  where
    none : Await
    none = record { agent = 0; count = 0 }

    at : (i : ℕ) → i < n + 1 → IsBlocked p counts i → (i ≡ n) ⊎ (i ≡ n → ⊥) → IsUnmet p counts i (want_at (wants ++ w ∷ []) i)
    at i l b (inl e) =
        let same : want_at (wants ++ w ∷ []) i ≡ w = get_or_push wants w none i (h.all ∙ sym e) in
        subst (IsUnmet p counts i) (sym same) (subst (λ j. IsUnmet p counts j w) (sym e) (here (subst (IsBlocked p counts) e b)))
    at i l b (inr ne) =
        let same : want_at (wants ++ w ∷ []) i ≡ want_at wants i = get_or_append_left wants (w ∷ []) none i (omega (arith, h.all)) in
        subst (IsUnmet p counts i) (sym same) (h.each i (omega arith) b)

pub wants_all : (p : Program) (counts : List ℕ) (wants : List Await) (n : ℕ) → AreWantsBelow p counts wants n → n ≡ length p → AreWants p counts wants
wants_all p counts wants n h e = record { all = h.all ∙ e; each = λ i b. h.each i (omega (arith, b.agent)) b }

pub down_more : (agent last n : ℕ) → down_from agent last (n + 1) ≡ down_from agent last n ++ record { agent = agent; number = last - n } ∷ []
down_more agent last n = rw (indices-more n, map-append) refl

-- ---- one action's awaits

-- the row is raised to the first k awaits
pub record IsRaisedBy (p : Program) (i n : ℕ) (old new : List ℕ) (k : ℕ) : Type 0 where
  pub keeps : (j : ℕ) → slice_index old j ≤ slice_index new j
  pub covers : (m : ℕ) (w : Await) → m < k → slice_get (awaits_of p i n) m ≡ Some w → w.count ≤ slice_index new w.agent
  pub only : (j : ℕ) → (slice_index new j ≡ slice_index old j) ⊎ ((w : Await) × Contains (awaits_of p i n) w × (w.agent ≡ j) × (w.count ≡ slice_index new j))

pub raised_low : (p : Program) (i n : ℕ) (old new : List ℕ) (k : ℕ) (w : Await) → IsRaisedBy p i n old new k → slice_get (awaits_of p i n) k ≡ Some w → w.count ≤ slice_index new w.agent → IsRaisedBy p i n old new (k + 1)
raised_low p i n old new k w h e l = record {
  keeps = h.keeps;
  covers = λ m v a f. elim (cases_eq m k) [
    | inl g ↦ subst (λ (x : Await). x.count ≤ slice_index new x.agent) (same_Some w v (sym e ∙ ap (slice_get (awaits_of p i n)) (sym g) ∙ f)) l
    | inr ne ↦ h.covers m v (omega arith) f
  ];
  only = h.only;
}

pub raised_more : (p : Program) (i n : ℕ) (old new : List ℕ) (k : ℕ) (w : Await) → IsRaisedBy p i n old new k → slice_get (awaits_of p i n) k ≡ Some w → slice_index new w.agent < w.count → w.agent < length new
    → IsRaisedBy p i n old (set new w.agent w.count) (k + 1)
raised_more p i n old new k w h e l inside = record {
  keeps = λ j. up j (cases_eq j w.agent);
  covers = λ m v a f. elim (cases_eq m k) [
    | inl g ↦ subst (λ (x : Await). x.count ≤ slice_index (set new w.agent w.count) x.agent) (same_Some w v (sym e ∙ ap (slice_get (awaits_of p i n)) (sym g) ∙ f)) (omega (arith, here))
    | inr ne ↦ omega (arith, h.covers m v (omega arith) f, grown v.agent (cases_eq v.agent w.agent))
  ];
  only = λ j. only j (cases_eq j w.agent);
}
  where
    here : slice_index (set new w.agent w.count) w.agent ≡ w.count
    here = get_or-set_same new w.agent w.count 0 inside

    grown : (j : ℕ) → (j ≡ w.agent) ⊎ (j ≡ w.agent → ⊥) → slice_index new j ≤ slice_index (set new w.agent w.count) j
    grown j (inl g) = let a : slice_index (set new w.agent w.count) j ≡ w.count = ap (slice_index (set new w.agent w.count)) g ∙ here in let b : slice_index new j ≡ slice_index new w.agent = ap (slice_index new) g in omega arith
    grown j (inr ne) = let a : slice_index (set new w.agent w.count) j ≡ slice_index new j = get_or-set_other new w.agent j w.count 0 ne in omega arith

    up : (j : ℕ) → (j ≡ w.agent) ⊎ (j ≡ w.agent → ⊥) → slice_index old j ≤ slice_index (set new w.agent w.count) j
    up j c = omega (arith, h.keeps j, grown j c)

    only : (j : ℕ) → (j ≡ w.agent) ⊎ (j ≡ w.agent → ⊥)
        → (slice_index (set new w.agent w.count) j ≡ slice_index old j) ⊎ ((v : Await) × Contains (awaits_of p i n) v × (v.agent ≡ j) × (v.count ≡ slice_index (set new w.agent w.count) j))
    only j (inl g) = inr (w, (k, slice_get_within (awaits_of p i n) k w e, get_or_from_slice_get (awaits_of p i n) k w w e), sym g, sym (ap (slice_index (set new w.agent w.count)) g ∙ here))
    only j (inr ne) =
        let a : slice_index (set new w.agent w.count) j ≡ slice_index new j = get_or-set_other new w.agent j w.count 0 ne in
        elim (h.only j) [ inl b ↦ inl (a ∙ b) | inr r ↦ inr (r.0, r.1, r.2, r.3 ∙ sym a) ]

pub raised_all : (p : Program) (i n : ℕ) (old new : List ℕ) (k : ℕ) → IsRaisedBy p i n old new k → length (awaits_of p i n) ≤ k → IsRaised p i n old new
raised_all p i n old new k h l = record {
  keeps = h.keeps;
  covers = λ w (m, a, e). h.covers m w (omega arith) (slice_get-get_or (awaits_of p i n) m w a ∙ ap Some e);
  only = h.only;
}

-- an action that was known, or is awaited, is one of the program
pub raised_moves : (p : Program) → AreInRange p → (i n : ℕ) (old new : List ℕ) → IsRaised p i n old new → ((j : ℕ) → slice_index old j ≤ moves p j) → (j : ℕ) → slice_index new j ≤ moves p j
raised_moves p range i n old new r few j = elim (r.only j) [
  | inl e ↦ omega (arith, e, few j)
  | inr (w, k, e, g) ↦ omega (arith, (range i n w k).last, ap (moves p) e, g)
]

-- ---- what is looked at

-- an action that is known as needed is one of the program
pub looking_moves : (p : Program) (v w : Visit) (needed looked : List ℕ) → IsLooking p v w needed looked → (j : ℕ) → slice_index needed j ≤ moves p j
looking_moves p v w needed looked h j =
    elim (cases_lt (slice_index needed j) 1) [
      | inl l ↦ omega arith
      | inr l ↦ (needed_action p v w (record { agent = j; number = slice_index needed j }) (h.sound j (slice_index needed j) l (omega arith))).last
    ]

own_of : (p : Program) (v : Visit) → IsVisit p v → (j c : ℕ) → j ≡ v.agent → 1 ≤ c → c ≤ v.position → Reaches p (record { agent = j; number = c }) (entering v)
own_of p v k j c e f l = subst (λ i. Reaches p (record { agent = i; number = c }) (entering v)) (sym e) (own_reach p v.agent c v.position k.agent f l k.position)

pub looking_start : (p : Program) (v w : Visit) (needed looked : List ℕ) → AreTwoVisits p v w → v.agent ≢ w.agent → AreZeros (length p) needed → AreZeros (length p) looked → IsLooking p v w (set (set needed v.agent v.position) w.agent w.position) looked
looking_start p v w needed looked visits apart none unseen = record {
  wide = length-set one w.agent w.position ∙ length-set needed v.agent v.position ∙ none.all;
  long = unseen.all;
  first = omega (arith, at_v);
  second = omega (arith, at_w);
  sound = λ j c f l. sound j c f l (cases_eq j w.agent) (cases_eq j v.agent);
  within = λ j. omega (arith, unseen.zero j);
  closed = λ j c a f l. absurd (omega (arith, unseen.zero j));
}
  where
    one : List ℕ
    one = set needed v.agent v.position

    two : List ℕ
    two = set one w.agent w.position

    at_w : slice_index two w.agent ≡ w.position
    at_w = get_or-set_same one w.agent w.position 0 (omega (arith, length-set needed v.agent v.position, none.all, visits.second.agent))

    at_v : slice_index two v.agent ≡ v.position
    at_v = get_or-set_other one w.agent v.agent w.position 0 apart ∙ get_or-set_same needed v.agent v.position 0 (omega (arith, none.all, visits.first.agent))

    sound : (j c : ℕ) → 1 ≤ c → c ≤ slice_index two j → (j ≡ w.agent) ⊎ (j ≡ w.agent → ⊥) → (j ≡ v.agent) ⊎ (j ≡ v.agent → ⊥) → IsNeededFor p v w (record { agent = j; number = c })
    sound j c f l (inl e) x = inr (own_of p w visits.second j c e f (omega (arith, ap (slice_index two) e, at_w)))
    sound j c f l (inr n) (inl e) = inl (own_of p v visits.first j c e f (omega (arith, ap (slice_index two) e, at_v)))
    sound j c f l (inr n) (inr o) = absurd (omega (arith, get_or-set_other one w.agent j w.position 0 n, get_or-set_other needed v.agent j v.position 0 o, none.zero j))

-- one action more is looked at
pub looking_more : (p : Program) → AreInRange p → (v w : Visit) (needed looked new : List ℕ) (j n : ℕ) → IsLooking p v w needed looked → j < length p → n ≡ slice_index looked j + 1 → n ≤ slice_index needed j
    → length new ≡ length needed → IsRaised p j n needed new → IsLooking p v w new (set looked j n)
looking_more p range v w needed looked new j n h inside is l same r = record {
  wide = same ∙ h.wide;
  long = length-set looked j n ∙ h.long;
  first = omega (arith, h.first, r.keeps v.agent);
  second = omega (arith, h.second, r.keeps w.agent);
  sound = λ i c f m. sound i c f m (r.only i);
  within = λ i. within i (cases_eq i j);
  closed = λ i c a f m k. closed i c a f m k (cases_eq i j);
}
  where
    here : slice_index (set looked j n) j ≡ n
    here = get_or-set_same looked j n 0 (omega (arith, h.long))

    this : ActionId
    this = record { agent = j; number = n }

    need : IsNeededFor p v w this
    need = h.sound j n (omega arith) l

    sound : (i c : ℕ) → 1 ≤ c → c ≤ slice_index new i → (slice_index new i ≡ slice_index needed i) ⊎ ((a : Await) × Contains (awaits_of p j n) a × (a.agent ≡ i) × (a.count ≡ slice_index new i)) → IsNeededFor p v w (record { agent = i; number = c })
    sound i c f m (inl e) = h.sound i c f (omega arith)
    sound i c f m (inr (a, k, e, g)) =
        let known = range j n a k in
        let x : ActionId = record { agent = a.agent; number = a.count } in
        let on : Reaches p x this = Reaches-need p x this (record { agent = known.agent; first = known.first; last = known.last }) (needed_action p v w this need) (inr k) in
        let own : Reaches p (record { agent = a.agent; number = c }) x = own_reach p a.agent c a.count known.agent f (omega arith) known.last in
        subst (λ y. IsNeededFor p v w (record { agent = y; number = c })) e
        (needed_on p v w (record { agent = a.agent; number = c }) x own (needed_on p v w x this on need))

    within : (i : ℕ) → (i ≡ j) ⊎ (i ≡ j → ⊥) → slice_index (set looked j n) i ≤ slice_index new i
    within i (inl e) = omega (arith, ap (slice_index (set looked j n)) e, ap (slice_index new) e, here, r.keeps j)
    within i (inr o) = omega (arith, get_or-set_other looked j i n 0 o, h.within i, r.keeps i)

    closed : (i c : ℕ) (a : Await) → 1 ≤ c → c ≤ slice_index (set looked j n) i → Contains (awaits_of p i c) a → (i ≡ j) ⊎ (i ≡ j → ⊥) → a.count ≤ slice_index new a.agent
    closed i c a f m k (inr o) = omega (arith, h.closed i c a f (omega (arith, get_or-set_other looked j i n 0 o)) k, r.keeps a.agent)
    closed i c a f m k (inl e) = elim (cases_eq c n) [
      | inl g ↦ r.covers a (subst (λ y. Contains (awaits_of p j y) a) g (subst (λ y. Contains (awaits_of p y c) a) e k))
      | inr o ↦
          let low : c ≤ slice_index looked i = omega (arith, ap (slice_index (set looked j n)) e, ap (slice_index looked) e, here) in
          omega (arith, h.closed i c a f low k, r.keeps a.agent)
    ]

-- if all that is known was looked at, it is all
pub looking_end : (p : Program) (v w : Visit) (needed looked : List ℕ) → IsLooking p v w needed looked → ((i : ℕ) → i < length p → slice_index needed i ≤ slice_index looked i) → AreNeeded p v w (slice_index needed)
looking_end p v w needed looked h all i c = (
  (λ k. ((needed_action p v w (record { agent = i; number = c }) k).first, into k)),
  (λ (f, l). h.sound i c f l),
)
  where
    on : (a b : ActionId) → IsAction p a × (a.number ≤ slice_index needed a.agent) → IsAction p b → DirectlyNeeds p a b → IsAction p b × (b.number ≤ slice_index needed b.agent)
    on a b (k, l) m (inl (e, n, f)) = (m, omega (arith, ap (slice_index needed) e))
    on a b (k, l) m (inr g) = (m, h.closed a.agent a.number (record { agent = b.agent; count = b.number }) k.first (omega (arith, all a.agent k.agent)) g)

    into : IsNeededFor p v w (record { agent = i; number = c }) → c ≤ slice_index needed i
    into (inl r) = (Reaches-kept p (λ a. IsAction p a × (a.number ≤ slice_index needed a.agent)) on (record { agent = i; number = c }) (entering v) (Reaches-last p (record { agent = i; number = c }) (entering v) r, h.first) r).1
    into (inr r) = (Reaches-kept p (λ a. IsAction p a × (a.number ≤ slice_index needed a.agent)) on (record { agent = i; number = c }) (entering w) (Reaches-last p (record { agent = i; number = c }) (entering w) r, h.second) r).1

-- ---- how many were looked at

pub looked_rises : (p : Program) (looked : List ℕ) (j n : ℕ) → j < length p → j < length looked → n ≡ slice_index looked j + 1 → looked_sum p looked + 1 ≤ looked_sum p (set looked j n)
unfolding looked_sum
looked_rises p looked j n l m e =
    sum_rises (slice_index looked) (slice_index (set looked j n)) 0 (length p) j (λ i. up i (cases_eq i j)) (omega arith) (omega arith) (omega (arith, here))
  where
    here : slice_index (set looked j n) j ≡ n
    here = get_or-set_same looked j n 0 m

    up : (i : ℕ) → (i ≡ j) ⊎ (i ≡ j → ⊥) → slice_index looked i ≤ slice_index (set looked j n) i
    up i (inl g) = omega (arith, ap (slice_index looked) g, ap (slice_index (set looked j n)) g, here)
    up i (inr o) = omega (arith, get_or-set_other looked j i n 0 o)

pub looked_few : (p : Program) (v w : Visit) (needed looked : List ℕ) → IsLooking p v w needed looked → looked_sum p looked ≤ total_moves p
unfolding looked_sum
looked_few p v w needed looked h =
    omega (arith, sum_of_moves p, sum_by-le-sum_by (slice_index looked) (moves p) (indices (length p)) (λ i. omega (arith, h.within i, looking_moves p v w needed looked h i)))
