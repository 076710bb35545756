-- The occupancies of one path are added, one after another.
use Rattle.fleet_search.proofs.Words.{◌≡◌, ◌≢◌, ℕ, ◌+◌, ◌≤◌, List, length, ◌⊎◌, inl, inr, sym, ap, ◌∙◌, subst, arith, Result, Ok, Err, OnOk, OnErr, cases_lt, cases_eq, Cell, cell_cases, MAX_HORIZON, Plan, cell_at, Occupancy, ReservationTable, Fits, with_path, arrival, occupancies_of, IsDuring, IsOccupancyAdded, AreInOrder, AreOccupanciesOn, HaveOccupancies, without, FOREVER}
use Rattle.fleet_search.proofs.Occupants.{cell_at-late}
use Rattle.fleet_search.proofs.ReservationTables.{AreOccupanciesTo, AreInOrder-to, to-none, to-other, to-all_other, to-placed, to-last}
use Rattle.fleet_search.proofs.WithoutAgent.{without-placed, without-others}

-- what follows from both answers of a call
pub from_ok_or_err : {T E P Q X : Type 0} (r : Result T E) → OnOk r P → OnErr r Q → (P → X) → (Q → X) → X
from_ok_or_err (Ok x) p q f g = f p
from_ok_or_err (Err e) p q f g = g q

-- the occupancies before the time `from` are added, and since then the agent is on one cell
pub record AreEntered (plan : Plan) (path : List Cell) (old new : ReservationTable) (from time : ℕ) : Type 0 where
  pub occupancies : (c : Cell) → AreOccupanciesTo plan path from c (occupancies_of new c)
  pub rest : (c : Cell) → without (length plan) (occupancies_of new c) ≡ occupancies_of old c
  pub since : from ≤ time
  pub same : (t : ℕ) → from ≤ t → t ≤ time → cell_at path t ≡ cell_at path time

pub entered-none : (plan : Plan) (path : List Cell) (rows : ReservationTable) → HaveOccupancies plan rows → AreEntered plan path rows rows 0 0
entered-none plan path rows h = record {
  occupancies = λ c. to-none plan path c (occupancies_of rows c) (h c);
  rest = λ c. without-others plan c (occupancies_of rows c) (h c);
  since = omega arith;
  same = λ t a b. ap (cell_at path) (omega arith);
}

-- the rest stays as it was, when an occupancy of the agent is added
pub rest-added : (plan : Plan) (old now new : ReservationTable) (cell : Cell) (occupancy : Occupancy) → ((c : Cell) → without (length plan) (occupancies_of now c) ≡ occupancies_of old c) → IsOccupancyAdded now new cell occupancy → occupancy.agent ≡ length plan → (same : (c : Cell) → (c ≡ cell) ⊎ (c ≢ cell)) → (c : Cell) → without (length plan) (occupancies_of new c) ≡ occupancies_of old c
rest-added plan old now new cell occupancy h a e same c = elim (same c) [
  | inl s ↦ ap (λ z. without (length plan) (occupancies_of new z)) s ∙ without-placed (occupancies_of now cell) (occupancies_of new cell) occupancy (length plan) a.here e ∙ ap (λ z. without (length plan) (occupancies_of now z)) (sym s) ∙ h c
  | inr ne ↦ ap (without (length plan)) (a.others c ne) ∙ h c
]

module _ (plan : Plan) (path : List Cell) (fits : Fits plan path) (old now : ReservationTable) (from time : ℕ) (h : AreEntered plan path old now from time) where
  -- the agent stays
  pub entered-same : cell_at path time ≡ cell_at path (time + 1) → AreEntered plan path old now from (time + 1)
  entered-same e = record {
    occupancies = h.occupancies;
    rest = h.rest;
    since = let s = h.since in omega arith;
    same = λ t a b. elim (cases_eq t (time + 1)) [
      | inl s ↦ ap (cell_at path) s
      | inr ne ↦ h.same t a (omega arith) ∙ e
    ];
  }

  pub entered-order : (c : Cell) → AreInOrder (occupancies_of now c)
  entered-order c = AreInOrder-to plan path from c (occupancies_of now c) (h.occupancies c)

  module _ (new : ReservationTable) (cell : Cell) (occupancy : Occupancy) (a : IsOccupancyAdded now new cell occupancy) (at : cell ≡ cell_at path time) (agent : occupancy.agent ≡ length plan) (begin : occupancy.from ≡ from) (few : time ≤ MAX_HORIZON) where
    -- the agent goes on
    pub entered-more : occupancy.until ≡ time → AreEntered plan path old new (time + 1) (time + 1)
    entered-more u = record {
      occupancies = λ c. elim (cell_cases c cell) [
        | inl s ↦ subst (λ z. AreOccupanciesTo plan path (time + 1) z (occupancies_of new z)) (sym s) (to-placed plan path fits from cell (occupancies_of now cell) (occupancies_of new cell) occupancy (h.occupancies cell) a.here agent begin (let z = h.since in omega arith) (let z = h.since in omega arith) there time u h.since few)
        | inr ne ↦ subst (λ z. AreOccupanciesTo plan path (time + 1) c z) (sym (a.others c ne)) (to-other plan path from c (occupancies_of now c) (h.occupancies c) (time + 1) (let z = h.since in omega arith) (λ t l m e. ne (e ∙ h.same t l (omega arith) ∙ sym at)))
      ];
      rest = rest-added plan old now new cell occupancy h.rest a agent (λ c. cell_cases c cell);
      since = omega arith;
      same = λ t l m. ap (cell_at path) (omega arith);
    }
      where
        there : (t : ℕ) → IsDuring occupancy t → cell_at path t ≡ cell
        there t d = h.same t (let l = d.0 in omega arith) (elim (d.1) [ inl l ↦ omega arith | inr l ↦ omega arith ]) ∙ sym at

    -- the agent has arrived
    pub entered-all : occupancy.until ≡ FOREVER → arrival path ≤ time → HaveOccupancies (with_path plan path) new
    entered-all u arrived c = elim (cell_cases c cell) [
      | inl s ↦ subst (λ z. AreOccupanciesOn (with_path plan path) z (occupancies_of new z)) (sym s) (to-last plan path fits from cell (occupancies_of now cell) (occupancies_of new cell) occupancy (h.occupancies cell) a.here agent begin (let z = h.since in omega arith) (let z = h.since in omega arith) (λ t d. there t (let l = d.0 in omega arith)) u)
      | inr ne ↦ subst (AreOccupanciesOn (with_path plan path) c) (sym (a.others c ne)) (to-all_other plan path from c (occupancies_of now c) (h.occupancies c) (λ t l e. ne (e ∙ there t l)))
    ]
      where
        there : (t : ℕ) → from ≤ t → cell_at path t ≡ cell
        there t l = elim (cases_lt t time) [
          | inl m ↦ h.same t l (omega arith) ∙ sym at
          | inr m ↦ cell_at-late path t (omega arith) ∙ sym (cell_at-late path time arrived) ∙ sym at
        ]

    pub entered-rest : (c : Cell) → without (length plan) (occupancies_of new c) ≡ occupancies_of old c
    entered-rest = rest-added plan old now new cell occupancy h.rest a agent (λ c. cell_cases c cell)
