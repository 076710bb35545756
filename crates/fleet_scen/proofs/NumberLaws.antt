-- The numbers of an agent's line by pairs.
use Rattle.std.proofs.Common.{◌≡◌, ℕ, List, Option, Some, None, Result, Ok, Err, refl}
use Rattle.fleet_model.specs.declared.task.Task.{Task}
use Rattle.fleet_text.specs.Text.{Bytes}
use Rattle.fleet_text.specs.Steps.{◌>>=◌, some_or}
use Rattle.fleet_scen.specs.declared.fault.ScenFault.{ScenFault}
use Rattle.fleet_scen.specs.declared.fault.ScenFault.TheVariants.{Fields, Number}
use Rattle.fleet_scen.specs.Fields.{fields_of}
use Rattle.fleet_scen.specs.ScenReading.{pair_at, numbers_at}

-- the numbers one by one
abbrev one_by_one : ℕ → (a b c d e f : Option ℕ) → Result (ℕ × ℕ × Task) ScenFault
one_by_one line a b c d e f =
    some_or a (Number line 3) >>= λ width. some_or b (Number line 4) >>= λ height. some_or c (Number line 5) >>= λ start_x. some_or d (Number line 6) >>= λ start_y. some_or e (Number line 7) >>= λ goal_x. some_or f (Number line 8) >>= λ goal_y.
    Ok (width, height, record { start = record { x = start_x; y = start_y }; goal = record { x = goal_x; y = goal_y } })

-- .. and two by two: the sizes, the start and the goal
abbrev two_by_two : ℕ → (a b c d e f : Option ℕ) → Result (ℕ × ℕ × Task) ScenFault
two_by_two line a b c d e f =
    pair_at line 3 a b >>= λ sizes. pair_at line 5 c d >>= λ start. pair_at line 7 e f >>= λ goal.
    Ok (sizes.0, sizes.1, record { start = record { x = start.0; y = start.1 }; goal = record { x = goal.0; y = goal.1 } })

same_numbers : (line : ℕ) (a b c d e f : Option ℕ) → one_by_one line a b c d e f ≡ two_by_two line a b c d e f
same_numbers line None b c d e f = refl
same_numbers line (Some a) None c d e f = refl
same_numbers line (Some a) (Some b) None d e f = refl
same_numbers line (Some a) (Some b) (Some c) None e f = refl
same_numbers line (Some a) (Some b) (Some c) (Some d) None f = refl
same_numbers line (Some a) (Some b) (Some c) (Some d) (Some e) None = refl
same_numbers line (Some a) (Some b) (Some c) (Some d) (Some e) (Some f) = refl

same_steps : {A B : Type 0} (r : Result A ScenFault) (f g : A → Result B ScenFault) → ((a : A) → f a ≡ g a) → (r >>= f) ≡ (r >>= g)
same_steps (Ok a) f g h = h a
same_steps (Err e) f g h = refl

pub numbers_are : (line : ℕ) (ws : List Bytes) → numbers_at line ws ≡ (some_or (fields_of ws) (Fields line) >>= λ f. two_by_two line f.width f.height f.start_x f.start_y f.goal_x f.goal_y)
unfolding numbers_at
numbers_are line ws = same_steps (some_or (fields_of ws) (Fields line)) _ _ (λ f. same_numbers line f.width f.height f.start_x f.start_y f.goal_x f.goal_y)
