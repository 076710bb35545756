-- What the places of agents say of who follows whom.
use Rattle.fleet_plan.proofs.Words.{◌≡◌, ◌≢◌, ℕ, ◌+◌, ◌<◌, ◌≤◌, List, length, slice_index, Option, Some, None, inl, inr, sym, ap, ◌∙◌, arith, cases_order, cases_lt, place_of, place_of-injective, Table, Ground, cell_index, Conflict, Vertex, Plan, cell_of, motion_of, steps, HasNoConflict, IsFirstConflict, StandOnMap, StandOnPlaces, HasNoMeeting, IsEntered, Covers, IsConflictFree, IsGround, is_passable, Task}
use Rattle.std.specs.Prelude.{MatchOption}
use Rattle.fleet_model.specs.Conflict.{HasFollowingConflict}
use Rattle.fleet_plan.specs.Apart.{IsApart, HasFollowing, IsTakenFrom}
use Rattle.fleet_plan.proofs.MeetLaws.{entered_apart}
use Rattle.fleet_plan.proofs.SweepLaws.{HavePlaces, passable_on_map, stays, stays_there}

-- agents on passable cells stand on the map
pub checked_on_map : (g : Ground) → IsGround g → (tasks : List Task) (plan : Plan) → IsConflictFree (is_passable g) tasks plan → StandOnMap g plan
checked_on_map g sizes tasks plan free i t l = passable_on_map g sizes (cell_of plan i t) (free.on_ground i t l)

-- a plan without conflict has no first one
pub none_found : (plan : Plan) (A : Type 0) → HasNoConflict plan → (found : Option Conflict) → MatchOption found A (IsFirstConflict plan) → A
none_found plan A free None h = h
none_found plan A free (Some d) h = absurd (free d h.conflict)

one_in : (places : List ℕ) → HasNoMeeting places → (i j : ℕ) → i < length places → j < length places → slice_index places i ≡ slice_index places j → i ≡ j
one_in places apart i j li lj s = elim (cases_order i j) [
  | inl e ↦ e
  | inr u ↦ absurd (elim u [ inl l ↦ apart i j (record { order = l; agents = lj; same = s }) | inr l ↦ apart j i (record { order = l; agents = li; same = sym s }) ])
]

-- the one agent that is in a place is agent i or another one
pub taken_by : (table : Table ℕ) (places : List ℕ) → IsEntered table places → (i j place : ℕ) → j < length places → slice_index places j ≡ place → IsTakenFrom places i place → j ≢ i
taken_by table places entered i j place l at taken e = taken.1 (one_in places (entered_apart table places entered) taken.0 j taken.2 l (taken.3 ∙ sym at) ∙ e)

module _ (have : HavePlaces) (g : Ground) (plan : Plan) (on : StandOnMap g plan) (t : ℕ) (places : List ℕ) (here : StandOnPlaces g plan t places) where
  pub taken_follows : (i : ℕ) → i < length plan → IsTakenFrom places i (cell_index g (cell_of plan i (t + 1))) → HasFollowing plan t
  taken_follows i l taken =
      let j = taken.0 in
      let within : j < length plan = omega (arith, taken.2, here.all) in
      let same = have g (cell_of plan i (t + 1)) (cell_of plan j t) ((on i (t + 1) l).0) ((on j t within).0) (sym taken.3 ∙ here.each j within) in
      (i, j, l, within, record { apart = λ e. taken.1 (sym e); same = ap place_of same })

  pub nobody_in : (table : Table ℕ) → IsEntered table places → (row : List ℕ) → Covers plan t row
      → ((k : ℕ) → k < length row → IsTakenFrom places (slice_index row k) (cell_index g (cell_of plan (slice_index row k) (t + 1))) → ⊥) → HasFollowing plan t → ⊥
  nobody_in table entered row covers none f =
      let i = f.0 in
      let j = f.1 in
      let within : j < length places = omega (arith, f.3, here.all) in
      let there : slice_index places j ≡ cell_index g (cell_of plan i (t + 1)) = here.each j f.3 ∙ ap (cell_index g) (place_of-injective (cell_of plan j t) (cell_of plan i (t + 1)) (sym f.4.same)) in
      elim (covers.others i f.2) [
        | inl c ↦ none c.at c.within (rw c.here (j, λ e. f.4.apart (sym e), within, there))
        | inr e ↦ f.4.apart (one_in places (entered_apart table places entered) i j (omega (arith, f.2, here.all)) within (here.each i f.2 ∙ stays_there g plan t i e ∙ sym there))
      ]

-- nobody follows once all stand still
pub still_apart : (plan : Plan) → HasNoConflict plan → (x i j : ℕ) → i < length plan → j < length plan → steps plan ≤ x → HasFollowingConflict (motion_of plan) x i j → ⊥
still_apart plan free x i j li lj l f =
    let still : motion_of plan (x + 1) i ≡ motion_of plan x i = ap place_of (stays plan i (x + 1) li (omega arith) ∙ sym (stays plan i x li l)) in
    let same : motion_of plan x i ≡ motion_of plan x j = sym still ∙ f.same in
    elim (cases_order i j) [
      | inl e ↦ f.apart e
      | inr u ↦ elim u [
        | inl b ↦ free (Vertex x i j) (b, lj, record { apart = f.apart; same = same })
        | inr b ↦ free (Vertex x j i) (b, li, record { apart = λ e. f.apart (sym e); same = sym same })
      ]
    ]

-- nobody has followed in any step
pub all_apart : (plan : Plan) → HasNoConflict plan → (t : ℕ) → steps plan ≤ t → ((x : ℕ) → x < t → HasFollowing plan x → ⊥) → IsApart plan
all_apart plan free t l none x i j li lj f = elim (cases_lt x t) [
  | inl b ↦ none x b (i, j, li, lj, f)
  | inr b ↦ still_apart plan free x i j li lj (omega (arith, l, b)) f
]

-- somebody follows
pub not_apart : (plan : Plan) (x : ℕ) → HasFollowing plan x → IsApart plan → ⊥
not_apart plan x f apart = apart x f.0 f.1 f.2 f.3 f.4
