-- A step back after a step.
use Rattle.fleet_dispatch.proofs.Cited.{◌≡◌, ◌∙◌, ◌+◌, ℕ, Some, refl, ap, arith, ℤ, ◌+ℤ◌, ◌-ℤ◌, pos, ints, Place, North, East, South, West, Step, Go, Dwell, stepped, Program, path, step_of, path_step, back}

down_up : (x : ℤ) → (x -ℤ pos 1) +ℤ pos 1 ≡ x
down_up x = omega (arith, ints)

up_down : (x : ℤ) → (x +ℤ pos 1) -ℤ pos 1 ≡ x
up_down x = omega (arith, ints)

stepped_back : (q : Place) (d : Step) → stepped (stepped q d) (back d) ≡ q
stepped_back q (Go North) = ap (λ (y : ℤ). record { x = q.x; y = y }) (down_up q.y)
stepped_back q (Go East) = ap (λ (x : ℤ). record { x = x; y = q.y }) (up_down q.x)
stepped_back q (Go South) = ap (λ (y : ℤ). record { x = q.x; y = y }) (up_down q.y)
stepped_back q (Go West) = ap (λ (x : ℤ). record { x = x; y = q.y }) (down_up q.x)
stepped_back q Dwell = refl

-- from where an action has led agent i the step back leads to where it came from
pub leads_back : (p : Program) (i n : ℕ) (q : Place) (d b : Step) → q ≡ path p i (n + 1) → step_of p i (n + 1) ≡ Some d → b ≡ back d → stepped q b ≡ path p i n
leads_back p i n q d b here dir is =
    ap (stepped q) is ∙ (ap (λ (r : Place). stepped r (back d)) (here ∙ path_step p i n d dir) ∙ stepped_back (path p i n) d)
