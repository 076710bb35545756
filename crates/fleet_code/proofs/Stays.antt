-- Programs that never stay, action by action.
use Rattle.fleet_code.proofs.Words.{◌≡◌, ℕ, zero, suc, ◌<◌, ◌≤◌, ◌∙◌, [], length, get_or, sym, ap, subst, inl, inr, ◌↔◌, Option, Some, None, slice_get, option_map, IsTrue, option_map_or, cases_lt, slice_get-get_or, slice_get_past, same_Some, none-some, Step, Dwell, Action, AgentProgram, is_move, Program, origin, step_of, NeverStays, MovesAlways}

-- the step of an action that is there
step_there : (p : Program) (i m : ℕ) (d : AgentProgram) (x : Action) → i < length p → m < length (get_or p i d).actions → step_of p i (suc m) ≡ Some (get_or (get_or p i d).actions m x).step
step_there p i m d x lt within =
    ap (λ (o : Option AgentProgram). option_map (λ (a : Action). a.step) (slice_get (option_map_or (λ (a : AgentProgram). a.actions) o []) m)) (slice_get-get_or p i d lt)
    ∙ ap (option_map (λ (a : Action). a.step)) (slice_get-get_or (get_or p i d).actions m x within)

-- .. and of one that is not
no_step : (p : Program) (i m : ℕ) (d : AgentProgram) → i < length p → length (get_or p i d).actions ≤ m → step_of p i (suc m) ≡ None
no_step p i m d lt past =
    ap (λ (o : Option AgentProgram). option_map (λ (a : Action). a.step) (slice_get (option_map_or (λ (a : AgentProgram). a.actions) o []) m)) (slice_get-get_or p i d lt)
    ∙ ap (option_map (λ (a : Action). a.step)) (slice_get_past (get_or p i d).actions m past)

move_at : (p : Program) → NeverStays p → (i : ℕ) → i < length p → MovesAlways p i
move_at p never i lt zero s e = absurd (none-some s e)
move_at p never i lt (suc m) s e =
    let d : AgentProgram = record { start = origin; goal = origin; actions = [] } in
    let x : Action = record { step = Dwell; awaits = [] } in
    elim (cases_lt m (length (get_or p i d).actions)) [
      | inl within ↦ subst (λ (y : Step). IsTrue (is_move y)) (same_Some (get_or (get_or p i d).actions m x).step s (sym (step_there p i m d x lt within) ∙ e)) (never i d lt m x within)
      | inr past ↦ absurd (none-some s (sym (no_step p i m d lt past) ∙ e))
    ]

-- each of its agents never stays
pub none_stays : (p : Program) → ((i : ℕ) → i < length p → MovesAlways p i) ↔ NeverStays p
none_stays p = (
  (λ each. λ i d lt m x within. each i lt (suc m) (get_or (get_or p i d).actions m x).step (step_there p i m d x lt within)),
  (λ never. move_at p never),
)
