-- How many states there are to be reached.
use Rattle.fleet_search.proofs.Words.{◌≡◌, ℕ, ◌+◌, ◌*◌, ◌<◌, ◌≤◌, List, length, Option, arith, mul-add-lt, same_from_place, State, Query, Times, Node, IsFrontier, state_in, pigeonhole}
use Rattle.fleet_search.proofs.Spread.{on_map}

-- the states up to a time on a map of so many columns and rows, by numbers
state_number : ℕ → ℕ → State → ℕ
state_number w h m = m.time * (w * h) + (m.cell.y * w + m.cell.x)

record IsInBox (w h t : ℕ) (m : State) : Type 0 where
  x : m.cell.x < w
  y : m.cell.y < h
  time : m.time < t

state_number-lt : (w h t : ℕ) (m : State) → IsInBox w h t m → state_number w h m < (w * h) * t
unfolding state_number
state_number-lt w h t m b = mul-add-lt m.time (w * h) (m.cell.y * w + m.cell.x) t b.time (mul-add-lt m.cell.y w m.cell.x h b.y b.x)

state_number-one : (w h t : ℕ) (m n : State) → IsInBox w h t m → IsInBox w h t n → state_number w h m ≡ state_number w h n → m ≡ n
unfolding state_number
state_number-one w h t m n a b e =
    let p = same_from_place m.time (m.cell.y * w + m.cell.x) n.time (n.cell.y * w + n.cell.x) (w * h) (mul-add-lt m.cell.y w m.cell.x h a.y a.x) (mul-add-lt n.cell.y w n.cell.x h b.y b.x) e in
    let r = same_from_place m.cell.y m.cell.x n.cell.y n.cell.x w a.x b.x p.1 in
    let et = p.0 in
    let ey = r.0 in
    let ex = r.1 in
    λ i. record { time = et i; cell = record { x = ex i; y = ey i } }

-- how many states there are up to the horizon
pub most_states : Query → ℕ
most_states q = (q.grid.now.width * q.grid.now.height) * (q.horizon + 1)

pub few_known : (q : Query) (f : ℕ) (left : Option ℕ) (r : List Node) (labels : Times) (stacks : List (List ℕ)) → IsFrontier q f left r labels stacks → length r ≤ most_states q
unfolding most_states
few_known q f left r labels stacks fr =
    pigeonhole (length r) ((q.grid.now.width * q.grid.now.height) * (q.horizon + 1)) (λ i. state_number q.grid.now.width q.grid.now.height (state_in r i)) (λ i l. state_number-lt q.grid.now.width q.grid.now.height (q.horizon + 1) (state_in r i) (in_box i l)) (λ i j a b e. fr.apart i j a b (state_number-one q.grid.now.width q.grid.now.height (q.horizon + 1) (state_in r i) (state_in r j) (in_box i a) (in_box j b) e))
  where
    in_box : (i : ℕ) → i < length r → IsInBox q.grid.now.width q.grid.now.height (q.horizon + 1) (state_in r i)
    in_box i h =
        let s = fr.sound i h in
        let p = on_map q.grid.now (state_in r i).cell fr.measured.heuristic.ready.map s.on_ground in
        record { x = p.0; y = p.1; time = let b = s.in_time in omega arith }
