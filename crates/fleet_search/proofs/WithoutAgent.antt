-- Occupancies without those of one agent.
use Rattle.fleet_search.proofs.Words.{◌≡◌, ℕ, ◌+◌, ◌<◌, ◌==◌, Bool, cond, List, [], ◌∷◌, ◌++◌, length, take, drop, refl, sym, ap, ◌∙◌, arith, add-one, not, ne_eqb, eq-eqb, take-append-drop, filter-append, Cell, Plan, Occupancy, IsPutIn, AreOccupanciesOn, without, occupancy_at}

-- one of them was put in
pub without-placed : (old new : List Occupancy) (occupancy : Occupancy) (agent : ℕ) → IsPutIn old new occupancy → occupancy.agent ≡ agent → without agent new ≡ without agent old
without-placed old new occupancy agent p e =
    let test : Occupancy → Bool = λ s. not (s.agent == agent) in
    ap (without agent) p.is
    ∙ filter-append test (take p.index old) (occupancy ∷ drop p.index old)
    ∙ ap (λ b. without agent (take p.index old) ++ cond b (occupancy ∷ without agent (drop p.index old)) (without agent (drop p.index old))) (ap not (eq-eqb occupancy.agent agent e))
    ∙ sym (filter-append test (take p.index old) (drop p.index old))
    ∙ ap (without agent) (take-append-drop p.index old)

pub without-none : (agent : ℕ) (occupancies : List Occupancy) → ((i : ℕ) → i < length occupancies → (occupancy_at occupancies i).agent < agent) → without agent occupancies ≡ occupancies
without-none agent [] h = refl
without-none agent (s ∷ ss) h =
    let first = h 0 (omega arith) in
    let later : (i : ℕ) → i < length ss → (occupancy_at ss i).agent < agent = λ i l. rw add-one at (h (i + 1) (omega arith)) in
    ap (λ b. cond b (s ∷ without agent ss) (without agent ss)) (ap not (ne_eqb s.agent agent (omega arith)))
    ∙ ap (λ z. s ∷ z) (without-none agent ss later)

pub without-others : (plan : Plan) (c : Cell) (occupancies : List Occupancy) → AreOccupanciesOn plan c occupancies → without (length plan) occupancies ≡ occupancies
without-others plan c occupancies h = without-none (length plan) occupancies (λ i l. (h.each i l).agent)
