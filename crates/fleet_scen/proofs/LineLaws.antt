-- The task of an agent's line, and the first fault of a line.
use Rattle.std.proofs.Common.{◌≡◌, ◌≢◌, ℕ, ◌+◌, Bool, true, false, not, ◌&&◌, eqb, List, [], ◌∷◌, length, Option, Some, None, Result, Ok, Err, refl, sym, ap, subst, ◌∙◌, arith, inl, inr}
use Rattle.std.specs.Prelude.{position, is_none, Any, ◌⊎◌}
use Rattle.std.specs.List.{list_any}
use Rattle.std.proofs.lemmas.Bool.{cases_Bool, eqb-true, eq-eqb, false_from_ne_true, both_ways, and_parts, not-true, not-false}
use Rattle.std.proofs.lemmas.List.Folds.{Any-from_list_any, list_any-from_Any}
use Rattle.std.proofs.lemmas.Option.{same_Some}
use Rattle.fleet_model.specs.declared.geometry.Cell.{Cell}
use Rattle.fleet_model.specs.declared.task.Task.{Task}
use Rattle.fleet_model.specs.Geometry.{is_same_cell, place_of}
use Rattle.fleet_model.proofs.Cells.{is_same_cell-true, is_same_cell-eq}
use Rattle.fleet_text.specs.Text.{Bytes}
use Rattle.fleet_grid.specs.Ground.{Ground, is_passable}
use Rattle.fleet_text.specs.Steps.{◌>>=◌, ◌>>◌, right_or, some_or}
use Rattle.fleet_text.proofs.StepLaws.{bind_ok, right_ok, ok_is, bind_err, right_err, err_is}
use Rattle.fleet_scen.specs.declared.fault.ScenFault.{ScenFault}
use Rattle.fleet_scen.specs.declared.fault.ScenFault.TheVariants.{Fields, Number, OtherMap, Blocked, SharedStart, SharedGoal}
use Rattle.fleet_scen.specs.declared.reading.Fields as fields_type
use Rattle.fleet_scen.specs.Fields.{fields_of}
use Rattle.fleet_scen.specs.ScenText.{Line, numbers_in, numbers_of, SpellsTask, HasPassableEnds, StandsForTask}
use Rattle.fleet_scen.specs.ScenReading.{starts_at, ends_at, numbers_at, task_at, apart_at}

-- ---- the fields of a line

abbrev listed : fields_type.Fields → List (Option ℕ)
listed f = f.width ∷ f.height ∷ f.start_x ∷ f.start_y ∷ f.goal_x ∷ f.goal_y ∷ []

abbrev NotNine : List Bytes → Type 0
NotNine ws = (fields_of ws ≡ None) × (length ws ≢ 9)

abbrev AreNine : List Bytes → Type 0
AreNine ws = (f : fields_type.Fields) × (fields_of ws ≡ Some f) × (length ws ≡ 9) × (numbers_in ws ≡ listed f)

nine_or_not : (ws : List Bytes) → NotNine ws ⊎ AreNine ws
unfolding fields_of
nine_or_not [] = inl (refl, λ e. omega (arith, e))
nine_or_not (a ∷ []) = inl (refl, λ e. omega (arith, e))
nine_or_not (a ∷ b ∷ []) = inl (refl, λ e. omega (arith, e))
nine_or_not (a ∷ b ∷ c ∷ []) = inl (refl, λ e. omega (arith, e))
nine_or_not (a ∷ b ∷ c ∷ d ∷ []) = inl (refl, λ e. omega (arith, e))
nine_or_not (a ∷ b ∷ c ∷ d ∷ x ∷ []) = inl (refl, λ e. omega (arith, e))
nine_or_not (a ∷ b ∷ c ∷ d ∷ x ∷ f ∷ []) = inl (refl, λ e. omega (arith, e))
nine_or_not (a ∷ b ∷ c ∷ d ∷ x ∷ f ∷ g ∷ []) = inl (refl, λ e. omega (arith, e))
nine_or_not (a ∷ b ∷ c ∷ d ∷ x ∷ f ∷ g ∷ h ∷ []) = inl (refl, λ e. omega (arith, e))
nine_or_not (a ∷ b ∷ c ∷ d ∷ x ∷ f ∷ g ∷ h ∷ i ∷ []) = inr (_, refl, refl, refl)
nine_or_not (a ∷ b ∷ c ∷ d ∷ x ∷ f ∷ g ∷ h ∷ i ∷ j ∷ more) = inl (refl, λ e. omega (arith, e))

-- ---- their numbers

abbrev made : ℕ → (a b c d e f : Option ℕ) → Result (ℕ × ℕ × Task) ScenFault
made line a b c d e f =
    some_or a (Number line 3) >>= λ width. some_or b (Number line 4) >>= λ height. some_or c (Number line 5) >>= λ start_x. some_or d (Number line 6) >>= λ start_y. some_or e (Number line 7) >>= λ goal_x. some_or f (Number line 8) >>= λ goal_y.
    Ok (width, height, record { start = record { x = start_x; y = start_y }; goal = record { x = goal_x; y = goal_y } })

abbrev made_of : ℕ → List (Option ℕ) → Result (ℕ × ℕ × Task) ScenFault
made_of line (a ∷ b ∷ c ∷ d ∷ e ∷ f ∷ []) = made line a b c d e f
made_of line others = Err (Fields line)

made_is : (line : ℕ) (a b c d e f : Option ℕ) (n : ℕ × ℕ × Task) → made line a b c d e f ≡ Ok n → a ∷ b ∷ c ∷ d ∷ e ∷ f ∷ [] ≡ numbers_of n.0 n.1 n.2
made_is line None b c d e f n p = absurd cc
made_is line (Some a) None c d e f n p = absurd cc
made_is line (Some a) (Some b) None d e f n p = absurd cc
made_is line (Some a) (Some b) (Some c) None e f n p = absurd cc
made_is line (Some a) (Some b) (Some c) (Some d) None f n p = absurd cc
made_is line (Some a) (Some b) (Some c) (Some d) (Some e) None n p = absurd cc
made_is line (Some a) (Some b) (Some c) (Some d) (Some e) (Some f) n p =
    ap (λ (x : ℕ × ℕ × Task). numbers_of x.0 x.1 x.2) (ok_is (a, b, record { start = record { x = c; y = d }; goal = record { x = e; y = f } }) n p)

made_fails : (line : ℕ) (a b c d e f : Option ℕ) (x : ScenFault) → made line a b c d e f ≡ Err x → (k : ℕ) × (x ≡ Number line (k + 3)) × (position is_none (a ∷ b ∷ c ∷ d ∷ e ∷ f ∷ []) ≡ Some k)
made_fails line None b c d e f x p = (0, sym (err_is {A = ℕ × ℕ × Task} (Number line 3) x p), refl)
made_fails line (Some a) None c d e f x p = (1, sym (err_is {A = ℕ × ℕ × Task} (Number line 4) x p), refl)
made_fails line (Some a) (Some b) None d e f x p = (2, sym (err_is {A = ℕ × ℕ × Task} (Number line 5) x p), refl)
made_fails line (Some a) (Some b) (Some c) None e f x p = (3, sym (err_is {A = ℕ × ℕ × Task} (Number line 6) x p), refl)
made_fails line (Some a) (Some b) (Some c) (Some d) None f x p = (4, sym (err_is {A = ℕ × ℕ × Task} (Number line 7) x p), refl)
made_fails line (Some a) (Some b) (Some c) (Some d) (Some e) None x p = (5, sym (err_is {A = ℕ × ℕ × Task} (Number line 8) x p), refl)
made_fails line (Some a) (Some b) (Some c) (Some d) (Some e) (Some f) x p = absurd cc

made_fault : (line : ℕ) (a b c d e f : Option ℕ) (k : ℕ) → position is_none (a ∷ b ∷ c ∷ d ∷ e ∷ f ∷ []) ≡ Some k → made line a b c d e f ≡ Err (Number line (k + 3))
made_fault line None b c d e f k p = ap (λ (i : ℕ). Err (Number line (i + 3))) (same_Some 0 k p)
made_fault line (Some a) None c d e f k p = ap (λ (i : ℕ). Err (Number line (i + 3))) (same_Some 1 k p)
made_fault line (Some a) (Some b) None d e f k p = ap (λ (i : ℕ). Err (Number line (i + 3))) (same_Some 2 k p)
made_fault line (Some a) (Some b) (Some c) None e f k p = ap (λ (i : ℕ). Err (Number line (i + 3))) (same_Some 3 k p)
made_fault line (Some a) (Some b) (Some c) (Some d) None f k p = ap (λ (i : ℕ). Err (Number line (i + 3))) (same_Some 4 k p)
made_fault line (Some a) (Some b) (Some c) (Some d) (Some e) None k p = ap (λ (i : ℕ). Err (Number line (i + 3))) (same_Some 5 k p)
made_fault line (Some a) (Some b) (Some c) (Some d) (Some e) (Some f) k p = absurd (let g : None ≡ Some k = p in cc)

-- why a line of words spells no sizes and task
abbrev pub IsNoSpelling : ℕ → List Bytes → ScenFault → Type 0
IsNoSpelling line ws f = ((f ≡ Fields line) × (length ws ≢ 9)) ⊎ ((k : ℕ) × (f ≡ Number line (k + 3)) × (length ws ≡ 9) × (position is_none (numbers_in ws) ≡ Some k))

numbers_ok : (line : ℕ) (ws : List Bytes) (n : ℕ × ℕ × Task) → numbers_at line ws ≡ Ok n → SpellsTask ws n.0 n.1 n.2
unfolding numbers_at
numbers_ok line ws n e =
    elim (nine_or_not ws) [
      | inl other ↦ absurd (let g : Err (Fields line) ≡ Ok n = rw other.0 at e in cc)
      | inr nine ↦ (
          let f = nine.0 in
          let g : made line f.width f.height f.start_x f.start_y f.goal_x f.goal_y ≡ Ok n = rw nine.1 at e in
          record { fields = nine.2; numbers = nine.3 ∙ made_is line f.width f.height f.start_x f.start_y f.goal_x f.goal_y n g })
    ]

numbers_again : (line : ℕ) (ws : List Bytes) (w h : ℕ) (t : Task) → SpellsTask ws w h t → numbers_at line ws ≡ Ok (w, h, t)
unfolding numbers_at
numbers_again line ws w h t s =
    elim (nine_or_not ws) [
      | inl other ↦ absurd (other.1 s.fields)
      | inr nine ↦ rw nine.1 (ap (made_of line) (sym nine.3 ∙ s.numbers))
    ]

numbers_fail : (line : ℕ) (ws : List Bytes) (x : ScenFault) → numbers_at line ws ≡ Err x → IsNoSpelling line ws x
unfolding numbers_at
numbers_fail line ws x e =
    elim (nine_or_not ws) [
      | inl other ↦ (let g : Err (Fields line) ≡ Err x = rw other.0 at e in inl (sym (err_is {A = ℕ × ℕ × Task} (Fields line) x g), other.1))
      | inr nine ↦ (
          let f = nine.0 in
          let g : made line f.width f.height f.start_x f.start_y f.goal_x f.goal_y ≡ Err x = rw nine.1 at e in
          let r = made_fails line f.width f.height f.start_x f.start_y f.goal_x f.goal_y x g in
          inr (r.0, r.1, nine.2, ap (position is_none) nine.3 ∙ r.2))
    ]

numbers_fault : (line : ℕ) (ws : List Bytes) (x : ScenFault) → IsNoSpelling line ws x → numbers_at line ws ≡ Err x
unfolding numbers_at
numbers_fault line ws x (inl p) =
    elim (nine_or_not ws) [
      | inl other ↦ rw other.0 (ap (λ (y : ScenFault). Err y) (sym p.0))
      | inr nine ↦ absurd (p.1 nine.2)
    ]
numbers_fault line ws x (inr p) =
    elim (nine_or_not ws) [
      | inl other ↦ absurd (other.1 p.2)
      | inr nine ↦ (
          let f = nine.0 in
          rw nine.1 (made_fault line f.width f.height f.start_x f.start_y f.goal_x f.goal_y p.0 (ap (position is_none) (sym nine.3) ∙ p.3) ∙ ap (λ (y : ScenFault). Err y) (sym p.1)))
    ]

-- ---- a task that is possible on the map

abbrev is_open : Ground → Task → Bool
is_open g t = is_passable g (place_of t.start) && is_passable g (place_of t.goal)

open_is : (g : Ground) (t : Task) → is_open g t ≡ true → HasPassableEnds g t
open_is g t e = let p = and_parts (is_passable g (place_of t.start)) (is_passable g (place_of t.goal)) e in record { start = p.0; goal = p.1 }

open_again : (g : Ground) (t : Task) → HasPassableEnds g t → is_open g t ≡ true
open_again g t h = rw (h.start, h.goal) refl

same_sizes : (g : Ground) (w h : ℕ) → (eqb w g.width && eqb h g.height) ≡ true → (w ≡ g.width) × (h ≡ g.height)
same_sizes g w h e = let p = and_parts (eqb w g.width) (eqb h g.height) e in (eqb-true w g.width p.0, eqb-true h g.height p.1)

sizes_again : (g : Ground) (w h : ℕ) → (w ≡ g.width) × (h ≡ g.height) → (eqb w g.width && eqb h g.height) ≡ true
sizes_again g w h e = rw (eq-eqb w g.width e.0, eq-eqb h g.height e.1) refl

spells_here : (g : Ground) (ws : List Bytes) (w h : ℕ) (t : Task) → (w ≡ g.width) × (h ≡ g.height) → SpellsTask ws w h t → SpellsTask ws g.width g.height t
spells_here g ws w h t e s = subst (λ (x : ℕ). SpellsTask ws x g.height t) e.0 (subst (λ (y : ℕ). SpellsTask ws w y t) e.1 s)

-- why the line stands for no task on the map
abbrev pub IsLineFault : Ground → Line → ScenFault → Type 0
IsLineFault g line f =
    IsNoSpelling line.0 line.1 f
    ⊎ (((w h : ℕ) × (t : Task) × (f ≡ OtherMap line.0) × SpellsTask line.1 w h t × ((w ≡ g.width) × (h ≡ g.height) → ⊥))
    ⊎ ((t : Task) × (f ≡ Blocked line.0) × SpellsTask line.1 g.width g.height t × (HasPassableEnds g t → ⊥)))

-- the steps after the numbers
abbrev judged : Ground → ℕ → ℕ × ℕ × Task → Result Task ScenFault
judged g line n = right_or (eqb n.0 g.width && eqb n.1 g.height) (OtherMap line) >> (right_or (is_open g n.2) (Blocked line) >> Ok n.2)

pub task_is : (g : Ground) (line : ℕ) (ws : List Bytes) (t : Task) → task_at g line ws ≡ Ok t → StandsForTask g (line, ws) t
unfolding task_at
task_is g line ws t e =
    let a = bind_ok (numbers_at line ws) (λ n. judged g line n) t e in
    let n = a.0 in
    let b = right_ok (eqb n.0 g.width && eqb n.1 g.height) (OtherMap line) (right_or (is_open g n.2) (Blocked line) >> Ok n.2) t a.2 in
    let c = right_ok (is_open g n.2) (Blocked line) (Ok n.2) t b.1 in
    let sizes = same_sizes g n.0 n.1 b.0 in
    let spells = spells_here g ws n.0 n.1 n.2 sizes (numbers_ok line ws n a.1) in
    let stands : StandsForTask g (line, ws) n.2 = record { spells = spells; cells = open_is g n.2 c.0 } in
    subst (StandsForTask g (line, ws)) (ok_is n.2 t c.1) stands

pub task_again : (g : Ground) (line : ℕ) (ws : List Bytes) (t : Task) → StandsForTask g (line, ws) t → task_at g line ws ≡ Ok t
unfolding task_at
task_again g line ws t s = rw (numbers_again line ws g.width g.height t s.spells, sizes_again g g.width g.height (refl, refl), open_again g t s.cells) refl

pub task_fails : (g : Ground) (line : ℕ) (ws : List Bytes) (f : ScenFault) → task_at g line ws ≡ Err f → IsLineFault g (line, ws) f
unfolding task_at
task_fails g line ws f e =
    elim (bind_err (numbers_at line ws) (λ n. judged g line n) f e) [
      | inl p ↦ inl (numbers_fail line ws f p)
      | inr p ↦ (
          let n = p.0 in
          let spells = numbers_ok line ws n p.1 in
          elim (right_err (eqb n.0 g.width && eqb n.1 g.height) (OtherMap line) (right_or (is_open g n.2) (Blocked line) >> Ok n.2) f p.2) [
            | inl q ↦ inr (inl (n.0, n.1, n.2, sym q.1, spells, λ same. both_ways (eqb n.0 g.width && eqb n.1 g.height) q.0 (sizes_again g n.0 n.1 same)))
            | inr q ↦ elim (right_err (is_open g n.2) (Blocked line) (Ok n.2) f q.1) [
              | inl r ↦ (
                  let sizes = same_sizes g n.0 n.1 q.0 in
                  inr (inr (n.2, sym r.1, spells_here g ws n.0 n.1 n.2 sizes spells, λ open_cells. both_ways (is_open g n.2) r.0 (open_again g n.2 open_cells))))
              | inr r ↦ absurd (let h : Ok n.2 ≡ Err f = r.1 in cc)
            ]
          ])
    ]

pub task_fault : (g : Ground) (line : Line) (f : ScenFault) → IsLineFault g line f → task_at g line.0 line.1 ≡ Err f
unfolding task_at
task_fault g line f (inl p) = rw (numbers_fault line.0 line.1 f p) refl
task_fault g line f (inr (inl p)) =
    let other : (eqb p.0 g.width && eqb p.1 g.height) ≡ false = false_from_ne_true (eqb p.0 g.width && eqb p.1 g.height) (λ t. p.5 (same_sizes g p.0 p.1 t)) in
    rw (numbers_again line.0 line.1 p.0 p.1 p.2 p.4, other) (ap (λ (y : ScenFault). Err y) (sym p.3))
task_fault g line f (inr (inr p)) =
    let shut : is_open g p.0 ≡ false = false_from_ne_true (is_open g p.0) (λ t. p.3 (open_is g p.0 t)) in
    rw (numbers_again line.0 line.1 g.width g.height p.0 p.2, sizes_again g g.width g.height (refl, refl), shut) (ap (λ (y : ScenFault). Err y) (sym p.1))

-- ---- a task beside those of earlier agents

pub any_is : (cell : Task → Cell) (c : Cell) (tasks : List Task) → list_any (λ s. is_same_cell (cell s) c) tasks ≡ true → Any (λ s. cell s ≡ c) tasks
any_is cell c tasks e =
    let a = Any-from_list_any (λ (s : Task). is_same_cell (cell s) c) tasks e in
    (a.0, a.1, a.2, a.3, is_same_cell-true (cell a.1) c a.4)

pub any_again : (cell : Task → Cell) (c : Cell) (tasks : List Task) → Any (λ s. cell s ≡ c) tasks → list_any (λ s. is_same_cell (cell s) c) tasks ≡ true
any_again cell c tasks a = list_any-from_Any (λ (s : Task). is_same_cell (cell s) c) tasks (a.0, a.1, a.2, a.3, is_same_cell-eq (cell a.1) c a.4)

-- the task shares a cell with those of earlier agents
abbrev pub IsShared : List Task → Task → ℕ → ScenFault → Type 0
IsShared earlier t line f =
    ((f ≡ SharedStart line) × Any (λ s. s.start ≡ t.start) earlier) ⊎ ((f ≡ SharedGoal line) × (Any (λ s. s.start ≡ t.start) earlier → ⊥) × Any (λ s. s.goal ≡ t.goal) earlier)

-- no earlier agent starts where the task starts, or ends where it ends
pub record IsNew (earlier : List Task) (t : Task) : Type 0 where
  pub start : list_any (starts_at t.start) earlier ≡ false
  pub goal : list_any (ends_at t.goal) earlier ≡ false

pub apart_is : (line : ℕ) (earlier : List Task) (t : Task) → apart_at line earlier t ≡ Ok tt → IsNew earlier t
unfolding apart_at
apart_is line earlier t e =
    let a = right_ok (not (list_any (starts_at t.start) earlier)) (SharedStart line) (right_or (not (list_any (ends_at t.goal) earlier)) (SharedGoal line)) tt e in
    elim (cases_Bool (list_any (ends_at t.goal) earlier)) [
      | inl shared ↦ absurd (let g : Err (SharedGoal line) ≡ Ok tt = rw shared at a.1 in cc)
      | inr new ↦ record { start = not-true (list_any (starts_at t.start) earlier) a.0; goal = new }
    ]

pub apart_again : (line : ℕ) (earlier : List Task) (t : Task) → IsNew earlier t → apart_at line earlier t ≡ Ok tt
unfolding apart_at
apart_again line earlier t h = rw (h.start, h.goal) refl

pub apart_fails : (line : ℕ) (earlier : List Task) (t : Task) (f : ScenFault) → apart_at line earlier t ≡ Err f → IsShared earlier t line f
unfolding apart_at
apart_fails line earlier t f e =
    elim (right_err (not (list_any (starts_at t.start) earlier)) (SharedStart line) (right_or (not (list_any (ends_at t.goal) earlier)) (SharedGoal line)) f e) [
      | inl p ↦ inl (sym p.1, any_is (λ s. s.start) t.start earlier (not-false (list_any (starts_at t.start) earlier) p.0))
      | inr p ↦ (
          let new = not-true (list_any (starts_at t.start) earlier) p.0 in
          let alone : Any (λ s. s.start ≡ t.start) earlier → ⊥ = λ a. both_ways (list_any (starts_at t.start) earlier) new (any_again (λ s. s.start) t.start earlier a) in
          elim (cases_Bool (list_any (ends_at t.goal) earlier)) [
            | inl shared ↦ (let g : Err (SharedGoal line) ≡ Err f = rw shared at p.1 in inr (sym (err_is {A = Unit {0}} (SharedGoal line) f g), alone, any_is (λ s. s.goal) t.goal earlier shared))
            | inr other ↦ absurd (let g : Ok tt ≡ Err f = rw other at p.1 in cc)
          ])
    ]

pub apart_fault : (line : ℕ) (earlier : List Task) (t : Task) (f : ScenFault) → IsShared earlier t line f → apart_at line earlier t ≡ Err f
unfolding apart_at
apart_fault line earlier t f (inl p) = rw (any_again (λ s. s.start) t.start earlier p.1) (ap (λ (y : ScenFault). Err y) (sym p.0))
apart_fault line earlier t f (inr p) =
    let new : list_any (starts_at t.start) earlier ≡ false = false_from_ne_true (list_any (starts_at t.start) earlier) (λ e. p.1 (any_is (λ s. s.start) t.start earlier e)) in
    rw (new, any_again (λ s. s.goal) t.goal earlier p.2) (ap (λ (y : ScenFault). Err y) (sym p.0))
