-- A program that is copied item by item.
use Rattle.fleet_code.proofs.Words.{◌≡◌, ℕ, suc, ◌+◌, ◌<◌, List, [], ◌∷◌, ◌++◌, length, take, slice_get, Option, Some, None, sym, refl, ap, ◌∙◌, arith, Program, start_of, goal_of, action_of, actions_of, option_map_or, Step, Action, Await, slice_get_within, get_or_from_slice_get}
use Rattle.std.specs.Option.{option_map}
use Rattle.fleet_code.proofs.InPlace.{agent_there}
use Rattle.std.proofs.Math.Seq.{take-suc}

copied_more : {A : Type 0} (items : List A) (k : ℕ) (x : A) → slice_get items k ≡ Some x → take k items ++ x ∷ [] ≡ take (k + 1) items
copied_more items k x e =
    let more : k + 1 ≡ suc k = omega arith in
    rw (more, take-suc items k x (slice_get_within items k x e), get_or_from_slice_get items k x x e) refl

-- one more of them was added to those that were copied
pub copied_next : {A : Type 0} (items : List A) (k : ℕ) (x : A) (old new : List A) → slice_get items k ≡ Some x → old ≡ take k items → new ≡ old ++ x ∷ [] → new ≡ take (k + 1) items
copied_next {A} items k x old new here e f = f ∙ ap (λ (xs : List A). xs ++ x ∷ []) e ∙ copied_more items k x here

-- the action that is next after so many
pub next_action : (p : Program) (i k : ℕ) (a : Action) → action_of p i (k + 1) ≡ Some a → slice_get (actions_of p i) k ≡ Some a
next_action p i k a e = let more : k + 1 ≡ suc k = omega arith in rw more at e

pub agent_is : (p : Program) (i : ℕ) → i < length p → slice_get p i ≡ Some (record { start = start_of p i; goal = goal_of p i; actions = actions_of p i })
agent_is p i lt = let a = agent_there p i lt in rw a.1 refl

-- an action by its step and its awaits
pub action_from : (o : Option Action) (s : Step) (ws : List Await) → option_map (λ a. a.step) o ≡ Some s → ws ≡ option_map_or (λ a. a.awaits) o [] → o ≡ Some (record { step = s; awaits = ws })
action_from None s ws e f = absurd cc
action_from (Some a) s ws e f =
    let step : a.step ≡ s = cc in
    rw (sym step, f) refl
