-- The level of the next action, await by await; and the action finished.
use Rattle.fleet_verify.proofs.Words.{◌≡◌, ℕ, ◌+◌, ◌-◌, ◌<◌, ◌≤◌, Bool, true, List, [], ◌∷◌, ◌++◌, length, get_or, set, slice_index, Option, Some, slice_get, refl, sym, ap, ◌∙◌, subst, arith, inl, inr, ◌⊎◌, IsTrue, cases_eq, cases_lt, get_or-set_same, get_or-set_other, length-set, slice_get-get_or, slice_get_within, get_or_from_slice_get, same_Some, Cell, Place, Step, ActionId, Await, Visit, place_of, stepped, is_move, is_entry, IsVisit, Program, origin, awaits_of, step_of, path, moves, DirectlyNeeds, awaited, max, IsRanked, IsNextLevel, AddsLevel, IsAheadBy, IsArrival, count_in, level_in, StandsRight, AreAddedBy, OpenPair, Needs}
use Rattle.fleet_verify.proofs.Begin.{begun_more}
use Rattle.fleet_verify.proofs.Leaving.{entry_by}
use Rattle.fleet_verify.proofs.Members.{same_action}
use Rattle.fleet_verify.proofs.Ordered.{no_entries, count_own, count_other, ranked_more}
use Rattle.fleet_verify.proofs.Paths.{path_step}

-- l is the greatest of the levels of agent i's last finished action and of the first k actions that action n awaits
pub record IsLeastTo (p : Program) (rows : List (List ℕ)) (i n k l : ℕ) : Type 0 where
  pub own : slice_index (get_or rows i []) (count_in rows i - 1) ≤ l
  pub each : (m : ℕ) (w : Await) → m < k → slice_get (awaits_of p i n) m ≡ Some w → IsRanked rows (awaited w) × (level_in rows (awaited w) ≤ l)
  pub some : (l ≡ 0) ⊎ ((b : ActionId) × IsRanked rows b × DirectlyNeeds p (record { agent = i; number = n }) b × (l ≡ level_in rows b))

pub least_begins : (p : Program) (rows : List (List ℕ)) (i n l : ℕ) → n ≡ count_in rows i + 1 → l ≡ slice_index (get_or rows i []) (count_in rows i - 1) → IsLeastTo p rows i n 0 l
least_begins p rows i n l next is = record {
  own = omega (arith, is);
  each = λ m w k e. absurd (omega arith);
  some = elim (cases_eq (count_in rows i) 0) [
    | inl none ↦ inl (is ∙ ap (λ (row : List ℕ). slice_index row (count_in rows i - 1)) (no_entries (get_or rows i []) none))
    | inr ne ↦ inr (record { agent = i; number = count_in rows i }, record { first = omega arith; last = omega arith }, inl (refl, next, omega arith), is)
  ];
}

pub least_more : (p : Program) (rows : List (List ℕ)) (i n k l : ℕ) → IsLeastTo p rows i n k l → (w : Await) → slice_get (awaits_of p i n) k ≡ Some w → 1 ≤ w.count → w.count ≤ count_in rows w.agent
    → (m : ℕ) → l ≤ m → level_in rows (awaited w) ≤ m → (m ≡ l) ⊎ (m ≡ level_in rows (awaited w)) → IsLeastTo p rows i n (k + 1) m
least_more p rows i n k l h w here first last m over high is = record {
  own = omega (arith, h.own);
  each = λ j u below at. elim (cases_eq j k) [
    | inl e ↦
        let same : w ≡ u = same_Some w u (sym here ∙ (ap (slice_get (awaits_of p i n)) (sym e) ∙ at)) in
        subst (λ (x : Await). IsRanked rows (awaited x) × (level_in rows (awaited x) ≤ m)) same (ranked, high)
    | inr ne ↦ (let r = h.each j u (omega arith) at in (r.0, omega (arith, r.1)))
  ];
  some = elim is [
    | inl e ↦ (elim h.some [ inl z ↦ inl (e ∙ z) | inr q ↦ inr (q.0, q.1, q.2, e ∙ q.3) ])
    | inr e ↦ inr (awaited w, ranked, inr (k, slice_get_within (awaits_of p i n) k w here, get_or_from_slice_get (awaits_of p i n) k w w here), e)
  ];
}
  where
    ranked : IsRanked rows (awaited w)
    ranked = record { first = first; last = last }

pub least_max : (p : Program) (rows : List (List ℕ)) (i n k l : ℕ) → IsLeastTo p rows i n k l → (w : Await) → slice_get (awaits_of p i n) k ≡ Some w → 1 ≤ w.count → w.count ≤ count_in rows w.agent
    → (v : ℕ) → v ≡ level_in rows (awaited w) → (m : ℕ) → m ≡ max l v → IsLeastTo p rows i n (k + 1) m
least_max p rows i n k l h w here first last v level m is = elim (cases_lt l v) [
  | inl more ↦ let e : m ≡ v = grind (arith, is, more) in least_more p rows i n k l h w here first last m (omega (arith, e, more)) (omega (arith, e, level)) (inr (e ∙ level))
  | inr less ↦ let e : m ≡ l = grind (arith, is, less) in least_more p rows i n k l h w here first last m (omega (arith, e)) (omega (arith, e, less, level)) (inl e)
]

pub least_ends : (p : Program) (rows : List (List ℕ)) (i n k l : ℕ) → IsLeastTo p rows i n k l → n ≡ count_in rows i + 1 → length (awaits_of p i n) ≤ k → (m : ℕ) → m ≡ l + 1 → IsNextLevel p rows i m
least_ends p rows i n k l h next all m is = rw is (subst (λ (a : ActionId). IsNextOf a) (ap (λ (m : ℕ). record { agent = i; number = m }) next) now)
  where
    IsNextOf : ActionId → Type 0
    IsNextOf a = IsNextLevel p rows i (l + 1)

    Needs : ℕ → ActionId → Type 0
    Needs m b = DirectlyNeeds p (record { agent = i; number = m }) b

    needs : (b : ActionId) → Needs n b → IsRanked rows b × (level_in rows b < l + 1)
    needs b (inl (e, f, g)) =
        let number : b.number ≡ count_in rows i = omega (arith, f, next) in
        let same : record { agent = i; number = count_in rows i } ≡ b = same_action (record { agent = i; number = count_in rows i }) b e (sym number) in
        subst (λ (x : ActionId). IsRanked rows x × (level_in rows x < l + 1)) same (record { first = omega (arith, g, number); last = omega arith }, omega (arith, h.own))
    needs b (inr (m, k', e)) =
        let w : Await = record { agent = b.agent; count = b.number } in
        let r = h.each m w (omega (arith, k', all)) (slice_get-get_or (awaits_of p i n) m w k' ∙ ap Some e) in
        (r.0, omega (arith, r.1))

    now : IsNextLevel p rows i (l + 1)
    now = record {
      needs = λ b need. needs b (subst (λ m. Needs m b) (sym next) need);
      least = elim h.some [
        | inl z ↦ inl (omega (arith, z))
        | inr q ↦ inr (q.0, q.1, subst (λ m. Needs m q.0) next q.2, omega (arith, q.3))
      ];
    }

-- a level is at least 1
pub next_level_some : {p : Program} {rows : List (List ℕ)} {i l : ℕ} → IsNextLevel p rows i l → 1 ≤ l
next_level_some h = elim h.least [ inl one ↦ omega (arith, one) | inr q ↦ (let is = q.3 in omega (arith, is)) ]

-- the action begins a visit if its step is a move
pub enters_by : (p : Program) (v : Visit) (needs : Needs) → IsArrival p v needs → is_entry p v.agent v.position ≡ is_move needs.step
enters_by p v needs h =
    let number : v.position - 1 + 1 ≡ v.position = omega (arith, h.first) in
    subst (λ (m : ℕ). is_entry p v.agent m ≡ is_move needs.step) number
    (entry_by p v.agent (v.position - 1) needs.step (subst (λ (m : ℕ). step_of p v.agent m ≡ Some needs.step) (sym number) h.step))

pub visit_by : (p : Program) (v : Visit) (needs : Needs) → v.agent < length p → IsArrival p v needs → is_move needs.step ≡ true → IsVisit p v
visit_by p v needs agent h moves = record { agent = agent; position = h.last; entered = enters_by p v needs h ∙ moves }

-- the next action of the agent, which is on this cell, finished
pub ahead_more : (passable : Place → Bool) (p : Program) (rows new : List (List ℕ)) (cells : List Cell) (last later : Cell → Option Visit) (pairs more : List OpenPair) (i n l : ℕ) (from cell : Cell)
    → IsAheadBy passable p rows (set cells i from) last pairs → i < length p → n ≡ count_in rows i + 1 → n ≤ moves p i → IsNextLevel p rows i l → length new ≡ length p → AddsLevel rows new i l
    → ((visits : List Visit) → AreAddedBy p visits last pairs → AreAddedBy p (visits ++ record { agent = i; position = n } ∷ []) later more)
    → place_of cell ≡ path p i n → IsTrue (passable (place_of cell)) → IsAheadBy passable p new (set cells i cell) later more
ahead_more passable p rows new cells last later pairs more i n l from cell h agent number left level long adds added on ground = record {
  rows = long;
  cells = length-set cells i cell ∙ many;
  ranked = ranked_more rows new i l adds p h.ranked (omega (arith, number, left)) level;
  here = here;
  begun = begun_more passable p (λ j. count_in rows j + 1) (λ j. count_in new j + 1) i last later pairs more h.begun agent
      (omega (arith, own)) (λ j ne. omega (arith, count_other rows new i l adds j ne))
      (subst (λ (m : ℕ). StandsRight passable p i m) number (subst (λ (q : Place). IsTrue (passable q)) on ground))
      (subst (λ (m : ℕ). (visits : List Visit) → AreAddedBy p visits last pairs → AreAddedBy p (visits ++ record { agent = i; position = m } ∷ []) later more) number added);
}
  where
    own : count_in new i ≡ count_in rows i + 1
    own = count_own rows new i l adds

    many : length cells ≡ length p
    many = sym (length-set cells i from) ∙ h.cells

    here : (j : ℕ) → j < length p → place_of (get_or (set cells i cell) j origin) ≡ path p j (count_in new j)
    here j there = elim (cases_eq j i) [
      | inl e ↦ subst (λ (k : ℕ). place_of (get_or (set cells i cell) k origin) ≡ path p k (count_in new k)) (sym e)
          (ap place_of (get_or-set_same cells i cell origin (omega (arith, agent, many)))
          ∙ (on ∙ ap (path p i) (omega (arith, number, own))))
      | inr ne ↦
          ap place_of (get_or-set_other cells i j cell origin ne ∙ sym (get_or-set_other cells i j from origin ne))
          ∙ (h.here j there ∙ ap (path p j) (sym (count_other rows new i l adds j ne)))
    ]

-- the step of the next action leads from the agent's cell to the next place of its path
pub leads_on : (p : Program) (i c : ℕ) (d : Step) (q : Place) → step_of p i (c + 1) ≡ Some d → q ≡ path p i c → stepped q d ≡ path p i (c + 1)
leads_on p i c d q step here = ap (λ (r : Place). stepped r d) here ∙ sym (path_step p i c d step)

-- the cell of the agent that is on it
pub place_at : (passable : Place → Bool) (p : Program) (rows : List (List ℕ)) (cells : List Cell) (last : Cell → Option Visit) (pairs : List OpenPair) (i n : ℕ) (cell : Cell)
    → IsAheadBy passable p rows (set cells i cell) last pairs → i < length p → n ≡ count_in rows i → place_of cell ≡ path p i n
place_at passable p rows cells last pairs i n cell h agent number =
    let many : length cells ≡ length p = sym (length-set cells i cell) ∙ h.cells in
    ap place_of (sym (get_or-set_same cells i cell origin (omega (arith, agent, many)))) ∙ (h.here i agent ∙ ap (path p i) (sym number))
