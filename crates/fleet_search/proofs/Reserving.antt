-- The reservations, as paths are added.
use Rattle.fleet_search.proofs.Words.{◌≡◌, List, [], ◌∷◌, ◌++◌, sym, ap, ◌∙◌, subst, arith, Cell, Plan, ReservationTable, with_path, Fits, AreReserved, AreOccupanciesOn, HaveOccupancies, occupancies_of}
use Rattle.fleet_search.proofs.OneByOne.{FitTogether-push}

-- nobody was on the cell
none_on : (c : Cell) → AreOccupanciesOn [] c []
none_on c = record {
  each = λ i l. absurd (omega arith);
  apart = λ i k l m. absurd (omega arith);
  all = λ t j on. let a = on.agent in absurd (omega arith);
}

pub reserved-none : (paths : Plan) (table : ReservationTable) → paths ≡ [] → ((c : Cell) → occupancies_of table c ≡ []) → AreReserved paths table
reserved-none paths table e f = subst (λ z. AreReserved z table) (sym e) (record {
  together = λ i h. absurd (omega arith);
  occupancies = λ c. subst (AreOccupanciesOn [] c) (sym (f c)) (none_on c);
})

-- the lists changed, and say what they said
pub reserved-kept : (paths : Plan) (old new : ReservationTable) → AreReserved paths old → HaveOccupancies paths new → AreReserved paths new
reserved-kept paths old new h occupancies = record { together = h.together; occupancies = occupancies }

pub reserved-pushed : (paths all : Plan) (old new : ReservationTable) (path copy : List Cell) → AreReserved paths old → Fits paths path → HaveOccupancies (with_path paths path) new → copy ≡ path → all ≡ paths ++ copy ∷ [] → AreReserved all new
reserved-pushed paths all old new path copy h fits occupancies f g =
    let p : with_path paths path ≡ all = ap (λ z. paths ++ z ∷ []) (sym f) ∙ sym g in
    subst (λ z. AreReserved z new) p (record { together = FitTogether-push paths path h.together fits; occupancies = occupancies })
