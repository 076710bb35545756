-- Agents that run on until nobody can.
use Rattle.fleet_verify.proofs.Words.{◌≡◌, ℕ, zero, suc, ◌+◌, ◌-◌, ◌<◌, ◌≤◌, ◌⊎◌, List, [], length, get_or, sym, ap, ◌∙◌, subst, arith, inl, inr, Option, Some, None, Await, Program, moves, cases_lt, cases_eq, Bool, IsTrue, false, false≢true, MAX_MOVES_IN_ALL, awaited, IsStopped, IsRunOn, IsNextLevel, CanGoOn, KeepsOthers, climbed_in, count_in}
use Rattle.fleet_verify.proofs.Climbing.{none_climbs, own_count, other_row}
use Rattle.fleet_verify.proofs.NextLevel.{next_level_some}

-- how many actions of the first n agents are not finished
abbrev pub left_to : Program → List (List ℕ) → ℕ → ℕ
left_to p rows zero = 0
left_to p rows (suc n) = left_to p rows n + (moves p n - count_in rows n)

pub left_le : (p : Program) (old new : List (List ℕ)) → ((j : ℕ) → count_in old j ≤ count_in new j) → (n : ℕ) → left_to p new n ≤ left_to p old n
left_le p old new grown zero = omega arith
left_le p old new grown (suc n) = omega (arith, left_le p old new grown n, grown n)

pub left_lt : (p : Program) (old new : List (List ℕ)) (i : ℕ) → ((j : ℕ) → count_in old j ≤ count_in new j) → count_in old i < count_in new i → count_in new i ≤ moves p i → (n : ℕ) → i < n → left_to p new n < left_to p old n
left_lt p old new i grown more within zero lt = absurd (omega (arith, lt))
left_lt p old new i grown more within (suc n) lt = elim (cases_lt i n) [
  | inl below ↦ omega (arith, left_lt p old new i grown more within n below, grown n)
  | inr over ↦
      let here : n ≡ i = omega (arith, lt, over) in
      let own : count_in old n < count_in new n = subst (λ (k : ℕ). count_in old k < count_in new k) (sym here) more in
      let bound : count_in new n ≤ moves p n = subst (λ (k : ℕ). count_in new k ≤ moves p k) (sym here) within in
      omega (arith, left_le p old new grown n, own, bound)
]

-- the next level of an agent is one
next_le : {p : Program} {rows : List (List ℕ)} {i l m : ℕ} → IsNextLevel p rows i l → IsNextLevel p rows i m → l ≤ m
next_le {p} {rows} {i} {l} {m} h k = elim h.least [
  | inl one ↦ (let some = next_level_some k in omega (arith, one, some))
  | inr q ↦ (let need = k.needs q.0 q.2 in let is = q.3 in omega (arith, need.1, is))
]

-- an agent whose next action has a level that is not too high can go on
pub goes_on : (p : Program) (rows : List (List ℕ)) (i l : ℕ) → count_in rows i < moves p i → IsNextLevel p rows i l → l ≤ MAX_MOVES_IN_ALL → CanGoOn p rows i
goes_on p rows i l left next low None end = omega (arith, left, end)
goes_on p rows i l left next low (Some w) kept = elim kept [
  | inl waits ↦ (let met = next.needs (awaited w) (inr waits.0) in omega (arith, met.0.last, waits.1))
  | inr high ↦ omega (arith, low, high.2, next_le high.1 next)
]

-- fewer actions are left once an agent that could go on is stopped
pub fewer_left : (p : Program) (old new : List (List ℕ)) (i : ℕ) (w : Option Await) → i < length p → count_in new i ≤ moves p i → CanGoOn p old i → IsStopped p new i w → IsRunOn old new i → left_to p new (length p) < left_to p old (length p)
fewer_left p old new i w agent within free stopped on = elim on.own [
  | inl more ↦ left_lt p old new i (grown more) more within (length p) agent
  | inr same ↦ absurd (free w (subst (λ (rows : List (List ℕ)). IsStopped p rows i w) same stopped))
]
  where
    grown : count_in old i < count_in new i → (j : ℕ) → count_in old j ≤ count_in new j
    grown more j = elim (cases_eq j i) [
      | inl e ↦ subst (λ (k : ℕ). count_in old k ≤ count_in new k) (sym e) (omega (arith, more))
      | inr ne ↦ (let is = ap (λ (row : List ℕ). length row) (on.others j ne) in omega (arith, is))
    ]

-- the row of an agent that has run on so far is written
pub ran_on : (old rows new : List (List ℕ)) (i n : ℕ) → i < length rows → count_in rows i ≤ n → new ≡ climbed_in rows i n → KeepsOthers old rows i → (count_in old i < n) ⊎ ((n ≡ count_in old i) × (rows ≡ old)) → IsRunOn old new i
ran_on old rows new i n there begun made others own = record {
  own = elim own [
    | inl more ↦ (let is = ap (λ (rs : List (List ℕ)). count_in rs i) made ∙ own_count rows i n there begun in inl (omega (arith, more, is)))
    | inr none ↦ inr (made ∙ (none_climbs rows i n (none.0 ∙ ap (λ (rs : List (List ℕ)). count_in rs i) (sym none.1)) ∙ none.1))
  ];
  others = λ j ne. ap (λ (rs : List (List ℕ)). get_or rs j []) made ∙ (other_row rows i n j ne ∙ others j ne);
}

pub has_run : {X : Type 0} (c m n : ℕ) → (c < m) ⊎ ((m ≡ c) × X) → m < n → c < n
has_run c m n own lt = elim own [ inl more ↦ omega (arith, more, lt) | inr none ↦ omega (arith, none.0, lt) ]

-- so many are less than all, as they are not said to be all
pub some_left : (b : Bool) (m n : ℕ) → m ≤ n → (m ≡ n → IsTrue b) → b ≡ false → m < n
some_left b m n le all is = elim (cases_eq m n) [
  | inl e ↦ absurd (false≢true (sym is ∙ all e))
  | inr ne ↦ omega (arith, le, ne)
]
