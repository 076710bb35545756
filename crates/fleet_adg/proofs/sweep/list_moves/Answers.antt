use Rattle.fleet_adg.proofs.Words.{◌≡◌, ◌+◌, ◌<◌, ◌++◌, ◌∷◌, [], ℕ, true, false, List, length, get_or, take, map, filter, refl, sym, ap, ◌∙◌, take_more, take_all, map-append, append-nil, filter-append, Cell, Plan, cell_of, Move, changes_in, move_by}
use Rattle.fleet_adg.proofs.SweepSteps.{movers_among}
use Rattle.fleet_adg.proofs.sweep.list_moves.Goals as goal
use Rattle.fleet_adg.proofs.sweep.list_moves.Goals.{in-Some+in_ok-push, in_default}

-- the moves of these agents
abbrev moves_of : Plan → ℕ → List ℕ → List Move
moves_of plan t agents = map (move_by plan t) (filter (λ i. changes_in plan i t) agents)

module _ (plan : Plan) (t k : ℕ) (agents : List ℕ) (moves : List Move) (inside : k < length agents) (so_far : moves ≡ moves_of plan t (take k agents)) where
  one_more : true ≡ changes_in plan (get_or agents k 0) t → (from to : Cell) → from ≡ cell_of plan (get_or agents k 0) t → to ≡ cell_of plan (get_or agents k 0) (t + 1)
      → moves ++ record { agent = get_or agents k 0; from = from; to = to } ∷ [] ≡ moves_of plan t (take (k + 1) agents)
  one_more moved from to from_is to_is =
      let change = sym moved in
      rw (take_more agents k 0 inside, filter-append, change, map-append, so_far, from_is, to_is) refl

  one_stays : false ≡ changes_in plan (get_or agents k 0) t → moves ≡ moves_of plan t (take (k + 1) agents)
  one_stays stayed =
      let change = sym stayed in
      rw (take_more agents k 0 inside, filter-append, change, append-nil) so_far

pub move_in-requires-clause-agent : goal.move_in-requires-clause-agent
move_in-requires-clause-agent c = c.requires.below c.loop-i.i-index 0 c.loop-i-test.true

pub loop-i-init : goal.loop-i-init
loop-i-init c = c.clear.ensures.items

pub returns : goal.returns
returns c =
    let plan = c.args.plan.now in
    let t = c.args.time in
    c.loop-i.invariant ∙ ap (moves_of plan t) (take_all c.loop-i.i-index c.args.agents.now c.loop-i-test.false) ∙ ap (map (move_by plan t)) (movers_among plan t c.args.agents.now c.requires.agents)

pub loop-i-preserved : goal.loop-i-preserved
loop-i-preserved c =
    let plan = c.args.plan.now in
    let t = c.args.time in
    let i = get_or c.args.agents.now c.loop-i.i-index 0 in
    elim c.match-move_in.branch [
      | in-Some+in_ok-push w ↦
          let cells = w.in-Some.ensures.cells in
          let from : w.in-Some.from ≡ cell_of plan i t = cells.0 in
          let to : w.in-Some.to ≡ cell_of plan i (t + 1) = cells.1 in
          rw w.moves-is (w.in_ok-push.ensures.items ∙ one_more plan t c.loop-i.i-index c.args.agents.now c.loop-i.moves.items c.loop-i-test.true c.loop-i.invariant w.in-Some.ensures.moves w.in-Some.from w.in-Some.to from to)
      | in_default w ↦ rw w.moves-is (one_stays plan t c.loop-i.i-index c.args.agents.now c.loop-i.moves.items c.loop-i-test.true c.loop-i.invariant w.in_default.ensures.moves)
    ]
