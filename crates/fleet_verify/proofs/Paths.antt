-- One step of a path.
use Rattle.fleet_verify.proofs.Words.{◌≡◌, ℕ, Bool, zero, suc, ◌+◌, ◌≤◌, [], Option, Some, None, get_or, slice_get, false, refl, ap, sym, ◌∙◌, subst, arith, add-one, option_map, pos, ◌+ℤ◌, ◌≤ℤ◌, ints, same_Some, slice_get-get_or, Cell, North, East, South, West, Place, Step, Go, Dwell, MAX_COORDINATE, Action, IsInReach, place_of, stepped, Program, start_of, actions_of, moves, step_of, path, IsCell, IsWellFormed, path_more, StandsRight, IsFirstNumber}

pub action_with : (o : Option Action) (d : Step) → option_map (λ a. a.step) o ≡ Some d → (a : Action) × (o ≡ Some a) × (a.step ≡ d)
action_with None d e = absurd cc
action_with (Some a) d e = (a, refl, same_Some a.step d e)

pub path_step : (p : Program) (i n : ℕ) (d : Step) → step_of p i (n + 1) ≡ Some d → path p i (n + 1) ≡ stepped (path p i n) d
path_step p i n d e =
    let e' : step_of p i (suc n) ≡ Some d = rw add-one at e in
    let a = action_with (slice_get (actions_of p i) n) d e' in
    path_more p i n a.0 a.1 ∙ ap (stepped (path p i n)) a.2

-- a step from where the path has come to
pub step_from : (p : Program) (i n : ℕ) (q : Place) (d : Step) → q ≡ path p i n → step_of p i (n + 1) ≡ Some d → path p i (n + 1) ≡ stepped q d
step_from p i n q d here dir = path_step p i n d dir ∙ ap (λ (r : Place). stepped r d) (sym here)

-- a step leads off passable ground
pub falls_off : (passable : Place → Bool) (p : Program) (i n : ℕ) (q : Place) (d : Step) → ((m : ℕ) → m ≤ n → StandsRight passable p i m)
    → q ≡ path p i n → step_of p i (n + 1) ≡ Some d → passable (stepped q d) ≡ false
    → IsFirstNumber (n + 1) (StandsRight passable p i) (n + 1)
falls_off passable p i n q d before here dir off = record {
  within = omega arith;
  wrong = λ on. let e : path p i (n + 1) ≡ stepped q d = step_from p i n q d here dir in
      let off' : passable (path p i (n + 1)) ≡ false = ap passable e ∙ off in absurd (cc (on, off'));
  sooner = λ m l. before m (omega arith);
}

-- a place no further from the cells of a map than by so many steps
record IsWithinSteps (q : Place) (n : ℕ) : Type 0 where
  west : pos 0 ≤ℤ (q.x +ℤ pos n)
  east : q.x ≤ℤ pos (MAX_COORDINATE + n)
  north : pos 0 ≤ℤ (q.y +ℤ pos n)
  south : q.y ≤ℤ pos (MAX_COORDINATE + n)

near_cell : (c : Cell) → IsCell c → IsWithinSteps (place_of c) 0
near_cell c h = record { west = omega (arith, ints, h.x); east = omega (arith, ints, h.x); north = omega (arith, ints, h.y); south = omega (arith, ints, h.y) }

near_step : (q : Place) (d : Step) (n : ℕ) → IsWithinSteps q n → IsWithinSteps (stepped q d) (n + 1)
near_step q (Go North) n h = record { west = omega (arith, ints, h.west); east = omega (arith, ints, h.east); north = omega (arith, ints, h.north); south = omega (arith, ints, h.south) }
near_step q (Go East) n h = record { west = omega (arith, ints, h.west); east = omega (arith, ints, h.east); north = omega (arith, ints, h.north); south = omega (arith, ints, h.south) }
near_step q (Go South) n h = record { west = omega (arith, ints, h.west); east = omega (arith, ints, h.east); north = omega (arith, ints, h.north); south = omega (arith, ints, h.south) }
near_step q (Go West) n h = record { west = omega (arith, ints, h.west); east = omega (arith, ints, h.east); north = omega (arith, ints, h.north); south = omega (arith, ints, h.south) }
near_step q Dwell n h = record { west = omega (arith, ints, h.west); east = omega (arith, ints, h.east); north = omega (arith, ints, h.north); south = omega (arith, ints, h.south) }

near_path : (p : Program) → IsWellFormed p → (i n : ℕ) → n ≤ moves p i → IsWithinSteps (path p i n) n
near_path p wf i zero l = near_cell (start_of p i) (wf.starts i)
near_path p wf i (suc n) l =
    let d : Action = record { step = Dwell; awaits = [] } in
    let e = slice_get-get_or (actions_of p i) n d (omega arith) in
    let on : path p i (n + 1) ≡ stepped (path p i n) (get_or (actions_of p i) n d).step = path_more p i n (get_or (actions_of p i) n d) e in
    subst (λ (m : ℕ). IsWithinSteps (path p i m) m) (add-one n) (subst (λ (q : Place). IsWithinSteps q (n + 1)) (sym on) (near_step (path p i n) (get_or (actions_of p i) n d).step n (near_path p wf i n (omega arith))))

-- from each place of a path a step leads to a place
pub in_reach : (p : Program) → IsWellFormed p → (i n : ℕ) (q : Place) → n ≤ moves p i → q ≡ path p i n → IsInReach q
in_reach p wf i n q l e =
    let h : IsWithinSteps q n = subst (λ (r : Place). IsWithinSteps r n) (sym e) (near_path p wf i n l) in
    let few = wf.moves_each i in
    record { west = omega (arith, ints, h.west, few); east = omega (arith, ints, h.east, few); north = omega (arith, ints, h.north, few); south = omega (arith, ints, h.south, few) }
