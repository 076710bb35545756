-- The moves of a step as a row: each of them, and what a fold over those who move makes.
use Rattle.fleet_adg.proofs.Words.{◌≡◌, ℕ, ◌+◌, ◌<◌, ◌≤◌, ◌==◌, not, filter, All, true, List, length, get_or, sym, ap, subst, ◌∙◌, arith, fold, length-map, get_or-map, get_or_default, filter_passes, All-get_or, All-filter, MAX_HORIZON, Cell, Await, Action, Deps, Version, most_count, Ground, cell_index, Plan, cell_of, Move, changes_in, leavings, entry_awaits, row_of, AreLeavingsAt, under_way, movers, move_by, moves_in, all_actions_by}
use Rattle.fleet_adg.specs.declared.sweep.Leavings.{Leavings}
use Rattle.fleet_adg.proofs.Folds.{fold-filter, note_by, note_by-stays, leaves-still, add_by, add_by-stays, all_actions_by-next}
use Rattle.fleet_adg.proofs.Limits.{counts_fit}
use Rattle.fleet_adg.proofs.SweepSteps.{IsNotedBelow, noting_ends, under_way_below}

-- ---- a move of the row

-- what is read past the end of a row
abbrev pub no_move : Move
no_move = record { agent = 0; from = record { x = 0; y = 0 }; to = record { x = 0; y = 0 } }

-- move k of the step after time t, which is that of agent k of those that move
pub record IsMoveAt (plan : Plan) (t k : ℕ) (one : Move) : Type 0 where
  pub place : k < length (movers plan t)
  pub agent : one.agent ≡ get_or (movers plan t) k one.agent
  pub from : one.from ≡ cell_of plan one.agent t
  pub to : one.to ≡ cell_of plan one.agent (t + 1)
  pub below : one.agent < length plan
  pub changes : changes_in plan one.agent t ≡ true

pub move_at : (plan : Plan) (t k : ℕ) (moves : List Move) → moves ≡ moves_in plan t → k < length moves → IsMoveAt plan t k (get_or moves k no_move)
move_at plan t k moves is lt =
    let i = get_or (movers plan t) k 0 in
    let one = get_or moves k no_move in
    let place : k < length (movers plan t) = omega (arith, lt, ap length is, length-map (movers plan t) (move_by plan t)) in
    let same : one ≡ move_by plan t i = ap (λ ms. get_or ms k no_move) is ∙ get_or-map (move_by plan t) (movers plan t) k 0 no_move place in
    let own : one.agent ≡ i = ap (λ (m : Move). m.agent) same in
    record {
      place = place;
      agent = own ∙ get_or_default (movers plan t) k 0 one.agent place;
      from = ap (λ (m : Move). m.from) same ∙ ap (λ j. cell_of plan j t) (sym own);
      to = ap (λ (m : Move). m.to) same ∙ ap (λ j. cell_of plan j (t + 1)) (sym own);
      below = subst (λ j. j < length plan) (sym own) (All-get_or (λ j. j < length plan) (movers plan t) k 0 place
          (All-filter (λ j. changes_in plan j t) (λ j. j < length plan) (under_way plan t) (under_way_below plan t)));
      changes = ap (λ j. changes_in plan j t) own ∙ All-get_or (λ j. changes_in plan j t ≡ true) (movers plan t) k 0 place (filter_passes (λ j. changes_in plan j t) (under_way plan t));
    }

pub length-moves : (plan : Plan) (t : ℕ) (moves : List Move) → moves ≡ moves_in plan t → length moves ≡ length (movers plan t)
length-moves plan t moves is = ap length is ∙ length-map (movers plan t) (move_by plan t)

-- ---- who does not move changes nothing

pub all_noted : (g : Ground) (plan : Plan) (deps : Deps) (t : ℕ) (l : Leavings) → IsNotedBelow g plan deps t (movers plan t) l → AreLeavingsAt g plan deps (t + 1) l
all_noted g plan deps t l h = noting_ends g plan deps t l (record {
  kind = h.kind;
  rows = λ q a b. h.rows q a b ∙ fold-filter (note_by plan deps q t) (λ i. changes_in plan i t) (λ ws i still. note_by-stays plan deps q t ws i (leaves-still plan q t i still)) (leavings plan deps q t) (under_way plan t);
})

pub all_added : (plan : Plan) (deps : Deps) (t : ℕ) (start : List (List Action)) → start ≡ all_actions_by plan deps t → fold (add_by plan deps t) start (movers plan t) ≡ all_actions_by plan deps (t + 1)
all_added plan deps t start is =
    ap (λ s. fold (add_by plan deps t) s (movers plan t)) is
    ∙ fold-filter (add_by plan deps t) (λ i. changes_in plan i t) (λ rows i still. add_by-stays plan deps t rows i still) (all_actions_by plan deps t) (under_way plan t)
    ∙ all_actions_by-next plan deps t

-- ---- what an action awaits

-- both versions have bytes for the counts of what is awaited by who enters a cell
pub awaits_fit : (g : Ground) (plan : Plan) (deps : Deps) (v : Version) (x i : ℕ) (l : Leavings) (to : Cell) → AreLeavingsAt g plan deps (x + 1) l → to ≡ cell_of plan i (x + 1) → to.x < g.width → to.y < g.height → x < MAX_HORIZON
    → All (λ w. w.count ≤ most_count v) (filter (λ w. not (w.agent == i)) (row_of l (cell_index g to)))
unfolding entry_awaits
awaits_fit g plan deps v x i l to h t column row few =
    let there : row_of l (cell_index g to) ≡ leavings plan deps (cell_of plan i (x + 1)) (x + 1) = h.rows to column row ∙ ap (λ q. leavings plan deps q (x + 1)) t in
    subst (λ (ws : List Await). All (λ (w : Await). w.count ≤ most_count v) (filter (λ (w : Await). not (w.agent == i)) ws)) (sym there) (counts_fit v plan deps i x few)
