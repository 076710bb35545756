-- Programs whose numbers version 1 of the bytes has room for.
use Rattle.fleet_adg.proofs.Words.{◌≡◌, ℕ, suc, ◌<◌, ◌≤◌, ◌∙◌, List, [], length, get_or, sym, ap, subst, arith, Contains, Option, slice_get, option_map_or, slice_get-get_or, slice_get_past, cases_lt, Contains-get_or, inl, inr, MAX_MOVES_V1, Await, Action, AgentProgram, Program, actions_of, moves, awaits_of, AreInRange, AreShort}

actions_there : (p : Program) (i : ℕ) (d : AgentProgram) → i < length p → actions_of p i ≡ (get_or p i d).actions
actions_there p i d lt = ap (λ (o : Option AgentProgram). option_map_or (λ (a : AgentProgram). a.actions) o []) (slice_get-get_or p i d lt)

awaits_there : (p : Program) (i m : ℕ) (d : AgentProgram) (s : Action) → i < length p → m < length (get_or p i d).actions → awaits_of p i (suc m) ≡ (get_or (get_or p i d).actions m s).awaits
awaits_there p i m d s lt within =
    ap (λ (xs : List Action). option_map_or (λ (a : Action). a.awaits) (slice_get xs m) []) (actions_there p i d lt)
    ∙ ap (λ (o : Option Action). option_map_or (λ (a : Action). a.awaits) o []) (slice_get-get_or (get_or p i d).actions m s within)

-- if no agent has too many actions, no await that can be met has too great a count
pub short_in_range : (p : Program) → AreInRange p → ((i : ℕ) → moves p i ≤ MAX_MOVES_V1) → AreShort p
short_in_range p range few i d lt =
    let a = get_or p i d in
    let long : moves p i ≡ length a.actions = ap (λ (xs : List Action). length xs) (actions_there p i d lt) in
    let own = few i in
    record {
      few = omega (arith, long, own);
      counts = λ m s within k w low.
          let awaits = (get_or a.actions m s).awaits in
          let here = subst (λ (ws : List Await). Contains ws (get_or awaits k w)) (sym (awaits_there p i m d s lt within)) (Contains-get_or awaits k w low) in
          let met = (range i (suc m) (get_or awaits k w) here).last in
          let theirs = few (get_or awaits k w).agent in
          omega (arith, met, theirs);
    }

-- no agent of such a program has too many actions
pub short_moves : (p : Program) → AreShort p → (i : ℕ) → moves p i ≤ MAX_MOVES_V1
short_moves p short i =
    elim (cases_lt i (length p)) [
      | inl lt ↦
          let d : AgentProgram = record { start = record { x = 0; y = 0 }; goal = record { x = 0; y = 0 }; actions = [] } in
          let long : moves p i ≡ length (get_or p i d).actions = ap (λ (xs : List Action). length xs) (actions_there p i d lt) in
          let own = (short i d lt).few in
          omega (arith, long, own)
      | inr past ↦
          let none : moves p i ≡ 0 = ap (λ (o : Option AgentProgram). length (option_map_or (λ (a : AgentProgram). a.actions) o [])) (slice_get_past p i past) in
          omega (arith, none)
    ]
