-- Agents entered one after another in their places, and who is ahead of whom.
use Rattle.fleet_plan.proofs.Words.{◌≡◌, ◌≢◌, ℕ, ◌+◌, ◌<◌, ◌≤◌, List, length, set, slice_index, Option, Some, None, IfSome, ◌⊎◌, inl, inr, refl, sym, ap, ◌∙◌, subst, arith, cases_eq, cases_lt, get_or-set_same, get_or-set_other, Table, value_in, IsSet, IsPairUpTo, NamesAgents, ahead_of, IsAhead, AreAhead, IsEntered, Exchange, HasNone, HasNoMeeting, IsFirstIn, IsFreeIn, IsFirstAhead, IsFreeAhead, IsAgentSettled, Conflict, Vertex, Swapping, Cycle}
use Rattle.std.specs.Prelude.{MatchOption}
use Rattle.fleet_plan.proofs.RingLaws.{ahead_within, some_is, none_is_not}
use Rattle.fleet_plan.proofs.RowLaws.{IsSoBut, but_more}

-- the least agent in the place of agent k
pub record IsOwner (places : List ℕ) (f k : ℕ) : Type 0 where
  pub order : f ≤ k
  pub same : slice_index places f ≡ slice_index places k
  pub least : (m : ℕ) → m ≤ k → slice_index places m ≡ slice_index places k → f ≤ m

-- the first two of the first n agents that meet, where there are two
abbrev pub IsLeastPair : List ℕ → ℕ → Option (ℕ × ℕ) → Type 0
IsLeastPair places n None = (k l : ℕ) → k < l → l < n → slice_index places k ≢ slice_index places l
IsLeastPair places n (Some p) = (p.0 < p.1) × (p.1 < n) × (slice_index places p.0 ≡ slice_index places p.1) × ((k l : ℕ) → k < l → l < n → slice_index places k ≡ slice_index places l → IsPairUpTo p.0 p.1 k l)

-- the first n agents are entered
pub record IsMeeting (table : Table ℕ) (places : List ℕ) (found : Option (ℕ × ℕ)) (n : ℕ) : Type 0 where
  pub entered : (k : ℕ) → k < n → IsOwner places (value_in table (slice_index places k)) k
  pub pair : IsLeastPair places n found

abbrev pub IsPicked : Option (ℕ × ℕ) → ℕ → ℕ → ℕ × ℕ → Type 0
IsPicked found i j p = MatchOption found (p ≡ (i, j)) (λ q. ((q.0 ≤ i) × (p ≡ q)) ⊎ ((i < q.0) × (p ≡ (i, j))))

module _ (table : Table ℕ) (places : List ℕ) (found : Option (ℕ × ℕ)) (n : ℕ) (m : IsMeeting table places found n) where
  -- agent n stands where agent i does, which is entered there
  module _ (i : ℕ) (entry : i ≡ value_in table (slice_index places n)) (below : i < n) (same : slice_index places i ≡ slice_index places n) where
    itself : value_in table (slice_index places i) ≡ i
    itself = ap (value_in table) same ∙ sym entry

    first_there : (k : ℕ) → k < n → slice_index places k ≡ slice_index places n → i ≤ k
    first_there k l e = elim (cases_lt k i) [
      | inl g ↦ let h : value_in table (slice_index places i) ≤ k = (m.entered i below).least k (omega arith) (e ∙ sym same) in omega (arith, itself)
      | inr g ↦ g
    ]

    own : IsOwner places (value_in table (slice_index places n)) n
    own = record {
      order = omega (arith, entry);
      same = ap (slice_index places) (sym entry) ∙ same;
      least = λ k l e. elim (cases_eq k n) [
        | inl s ↦ omega (arith, entry)
        | inr ne ↦ let h : i ≤ k = first_there k (omega arith) e in omega (arith, entry)
      ];
    }

    entered_on : (k : ℕ) → k < n + 1 → IsOwner places (value_in table (slice_index places k)) k
    entered_on k l = elim (cases_eq k n) [
      | inl s ↦ subst (λ z. IsOwner places (value_in table (slice_index places z)) z) (sym s) own
      | inr ne ↦ m.entered k (omega arith)
    ]

    pub meeting-hit : (p : ℕ × ℕ) → IsPicked found i n p → IsMeeting table places (Some p) (n + 1)
    meeting-hit p h = record { entered = entered_on; pair = go found m.pair h }
      where
        new : ((k l : ℕ) → k < l → l < n → slice_index places k ≡ slice_index places l → i < k) → p ≡ (i, n) → IsLeastPair places (n + 1) (Some p)
        new others e =
            let e0 : p.0 ≡ i = ap (λ (q : ℕ × ℕ). q.0) e in
            let e1 : p.1 ≡ n = ap (λ (q : ℕ × ℕ). q.1) e in (
              omega arith,
              omega arith,
              ap (slice_index places) e0 ∙ same ∙ ap (slice_index places) (sym e1),
              λ k l a b s. elim (cases_eq l n) [
                | inl z ↦ let h : i ≤ k = first_there k (omega arith) (s ∙ ap (slice_index places) z) in grind arith
                | inr ne ↦ let h : i < k = others k l a (omega arith) s in inl (omega arith)
              ],
            )

        go : (o : Option (ℕ × ℕ)) → IsLeastPair places n o → IsPicked o i n p → IsLeastPair places (n + 1) (Some p)
        go None least e = new (λ k l a b s. absurd (least k l a b s)) e
        go (Some q) least (inl h) =
            let e0 : p.0 ≡ q.0 = ap (λ (q : ℕ × ℕ). q.0) h.1 in
            let e1 : p.1 ≡ q.1 = ap (λ (q : ℕ × ℕ). q.1) h.1 in
            let l0 : q.0 < q.1 = least.0 in
            let l1 : q.1 < n = least.1 in
            let le : q.0 ≤ i = h.0 in (
              omega arith,
              omega arith,
              ap (slice_index places) e0 ∙ least.2 ∙ ap (slice_index places) (sym e1),
              λ k l a b s. elim (cases_eq l n) [
                | inl z ↦ let g : i ≤ k = first_there k (omega arith) (s ∙ ap (slice_index places) z) in later k l (omega arith) (omega arith)
                | inr ne ↦ keep k l (least.3 k l a (omega arith) s)
              ],
            )
          where
            later : (k l : ℕ) → p.0 ≤ k → p.1 < l → IsPairUpTo p.0 p.1 k l
            later k l a b = grind arith

            keep : (k l : ℕ) → IsPairUpTo q.0 q.1 k l → IsPairUpTo p.0 p.1 k l
            keep k l u = subst (λ (z : ℕ × ℕ). IsPairUpTo z.0 z.1 k l) (sym h.1) u
        go (Some q) least (inr h) = new (λ k l a b s. elim (least.3 k l a b s) [ inl u ↦ let g : i < q.0 = h.0 in omega arith | inr u ↦ let g : i < q.0 = h.0 in omega (arith, u.0) ]) h.1

  -- who is entered where agent n stands does not stand there, or is n or a later one
  module _ (e : ℕ) (entry : e ≡ value_in table (slice_index places n)) (other : e < n → slice_index places e ≢ slice_index places n) where
    alone : (k : ℕ) → k < n → slice_index places k ≢ slice_index places n
    alone k l s =
        let o = m.entered k l in
        let f : value_in table (slice_index places k) ≡ e = ap (value_in table) s ∙ sym entry in
        other (omega (arith, f, o.order)) (ap (slice_index places) (sym f) ∙ o.same ∙ s)

    module _ (table' : Table ℕ) (stored : IsSet table table' (slice_index places n) n) where
      put : value_in table' (slice_index places n) ≡ n
      put = stored.here

      kept : (k : ℕ) → k < n → value_in table' (slice_index places k) ≡ value_in table (slice_index places k)
      kept k l = stored.others (slice_index places k) (alone k l)

      own_now : IsOwner places (value_in table' (slice_index places n)) n
      own_now = record {
        order = omega (arith, put);
        same = ap (slice_index places) put;
        least = λ k l s. elim (cases_eq k n) [
          | inl z ↦ omega (arith, put)
          | inr ne ↦ absurd (alone k (omega arith) s)
        ];
      }

      pub meeting-miss : IsMeeting table' places found (n + 1)
      meeting-miss = record {
        entered = λ k l. elim (cases_eq k n) [
          | inl s ↦ subst (λ z. IsOwner places (value_in table' (slice_index places z)) z) (sym s) own_now
          | inr ne ↦ subst (λ z. IsOwner places z k) (sym (kept k (omega arith))) (m.entered k (omega arith))
        ];
        pair = go found m.pair;
      }
        where
          go : (o : Option (ℕ × ℕ)) → IsLeastPair places n o → IsLeastPair places (n + 1) o
          go None least = λ k l a b s. elim (cases_eq l n) [
            | inl z ↦ alone k (omega arith) (s ∙ ap (slice_index places) z)
            | inr ne ↦ least k l a (omega arith) s
          ]
          go (Some q) least = (
            least.0,
            (let h : q.1 < n = least.1 in omega arith),
            least.2,
            λ k l a b s. elim (cases_eq l n) [
              | inl z ↦ absurd (alone k (omega arith) (s ∙ ap (slice_index places) z))
              | inr ne ↦ least.3 k l a (omega arith) s
            ],
          )

-- ---- what follows where nobody meets another

pub ahead_agents : (places next : List ℕ) (ahead : List (Option ℕ)) → AreAhead places next ahead → NamesAgents ahead
ahead_agents places next ahead a i j e =
    let within : i < length ahead = ahead_within ahead i j e in
    let h : IsAhead places next i (Some j) = subst (IsAhead places next i) e (a.each i (omega (arith, a.all))) in
    omega (arith, h.1, a.all)

-- nobody is ahead of one that stays
pub nobody_ahead : (places next : List ℕ) (ahead : List (Option ℕ)) → AreAhead places next ahead → (i : ℕ) → i < length places → slice_index next i ≡ slice_index places i → ahead_of ahead i ≡ None
nobody_ahead places next ahead a i l s = go (ahead_of ahead i) (a.each i l)
  where
    go : (o : Option ℕ) → IsAhead places next i o → o ≡ None
    go None h = refl
    go (Some j) h = absurd (h.0 s)

-- who is ahead of an agent is an agent, and another one
pub ahead_other : (places next : List ℕ) (i : ℕ) (o : Option ℕ) → IsAhead places next i o → IfSome o (λ j. (j < length places) × (j ≢ i))
ahead_other places next i None h = tt
ahead_other places next i (Some j) h = (h.1, λ e. h.0 (sym h.2 ∙ ap (slice_index places) e))

-- ---- no two agents are ahead of each other

-- agent i learns who is ahead of it, which it is not ahead of in turn
pub no_exchange_more : (ahead : List (Option ℕ)) (i : ℕ) (o : Option ℕ) → i < length ahead → HasNone (Exchange ahead) → IfSome o (λ j. j ≢ i) → IfSome o (λ j. ahead_of ahead j ≢ Some i) → HasNone (Exchange (set ahead i o))
no_exchange_more ahead i o l none other back = both
  where
    after : List (Option ℕ)
    after = set ahead i o

    here : ahead_of after i ≡ o
    here = get_or-set_same ahead i o None l

    there : (k : ℕ) → k ≢ i → ahead_of after k ≡ ahead_of ahead k
    there k ne = get_or-set_other ahead i k o None ne

    from : (k : ℕ) → ahead_of after i ≡ Some k → ahead_of after k ≡ Some i → ⊥
    from k e f = go o refl other back
      where
        go : (p : Option ℕ) → o ≡ p → IfSome p (λ j. j ≢ i) → IfSome p (λ j. ahead_of ahead j ≢ Some i) → ⊥
        go None s a b = none_is_not k (ahead_of after i) e (here ∙ s)
        go (Some j) s a b =
            let same : j ≡ k = some_is j k (ahead_of after i) (here ∙ s) e in
            b (sym (there j a) ∙ ap (ahead_of after) same ∙ f)

    both : HasNone (Exchange after)
    both k m x = elim (cases_eq k i) [
      | inl s ↦ from m (ap (ahead_of after) (sym s) ∙ x.there) (x.back ∙ ap (λ (z : ℕ). Some z) s)
      | inr ne ↦ elim (cases_eq m i) [
        | inl s ↦ from k (ap (ahead_of after) (sym s) ∙ x.back) (x.there ∙ ap (λ (z : ℕ). Some z) s)
        | inr nm ↦ none k m (record { there = sym (there k ne) ∙ x.there; back = sym (there m nm) ∙ x.back })
      ]
    ]

-- ---- agents entered one after another

-- where each agent is entered nobody meets another
pub entered_apart : (table : Table ℕ) (places : List ℕ) → IsEntered table places → HasNoMeeting places
entered_apart table places h i j m =
    let order : i < j = m.order in
    let within : j < length places = m.agents in
    let e : i ≡ j = sym (h i (omega arith)) ∙ ap (value_in table) m.same ∙ h j within in
    omega arith

-- ---- what who is ahead says of places

pub told_in : (places next : List ℕ) (ahead : List (Option ℕ)) (t : ℕ) → HasNoMeeting places → AreAhead places next ahead → (o : Option Conflict) → MatchOption o (IsFreeAhead ahead) (IsFirstAhead ahead t) → MatchOption o (IsFreeIn places next) (IsFirstIn places next t)
told_in places next ahead t apart a None h = record { ahead = ahead; are_ahead = a; none = record { apart = apart; none = h.none }; no_ring = h.no_ring }
told_in places next ahead t apart a (Some (Vertex x i j)) h = absurd h
told_in places next ahead t apart a (Some (Swapping x i j)) h = (h.0, apart, (ahead, a, h.1))
told_in places next ahead t apart a (Some (Cycle x least)) h = (h.0, (ahead, a, record { apart = apart; none = h.1 }, h.2))

-- ---- rows filled at the agents of a row

pub ahead_more : (row places next : List ℕ) (ahead : List (Option ℕ)) (k n p : ℕ) (o : Option ℕ) → p ≡ slice_index row k → slice_index row k < length ahead → IsAhead places next (slice_index row k) o → IsSoBut row k n (λ j. IsAhead places next j (ahead_of ahead j)) → IsSoBut row (k + 1) n (λ j. IsAhead places next j (ahead_of (set ahead p o) j))
ahead_more row places next ahead k n p o e l a h = subst (λ z. IsSoBut row (k + 1) n (λ j. IsAhead places next j (ahead_of (set ahead z o) j))) (sym e) (but_more row k n (λ j. IsAhead places next j (ahead_of ahead j)) (λ j. IsAhead places next j (ahead_of (set ahead i o) j)) h
    (subst (IsAhead places next i) (sym (get_or-set_same ahead i o None l)) a)
    (λ j b ne r. subst (IsAhead places next j) (sym (get_or-set_other ahead i j o None ne)) r))
  where
    i : ℕ
    i = slice_index row k

pub settled_more : (row places next : List ℕ) (ahead walks : List (Option ℕ)) (k n p v : ℕ) → p ≡ slice_index row k → v ≡ slice_index next (slice_index row k) → slice_index row k < length places → slice_index row k < length ahead → slice_index row k < length walks → IsSoBut row k n (IsAgentSettled places next ahead walks) → IsSoBut row (k + 1) n (IsAgentSettled (set places p v) next (set ahead p None) (set walks p None))
settled_more row places next ahead walks k n p v e w l la lw h = subst (λ z. IsSoBut row (k + 1) n (IsAgentSettled (set places z v) next (set ahead z None) (set walks z None))) (sym e) (but_more row k n (IsAgentSettled places next ahead walks) (IsAgentSettled (set places i v) next (set ahead i None) (set walks i None)) h
    (record { same = sym (get_or-set_same places i v 0 l ∙ w); nobody = get_or-set_same ahead i None None la; unwalked = get_or-set_same walks i None None lw })
    (λ j b ne r. record {
      same = r.same ∙ sym (get_or-set_other places i j v 0 ne);
      nobody = get_or-set_other ahead i j None None ne ∙ r.nobody;
      unwalked = get_or-set_other walks i j None None ne ∙ r.unwalked;
    }))
  where
    i : ℕ
    i = slice_index row k
