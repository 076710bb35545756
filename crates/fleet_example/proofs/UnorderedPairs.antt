-- Small programs with two visits of a place that have no order: where their agents meet, and that they are refused.
use Rattle.std.proofs.Common.{[], ◌∷◌, refl}
use Rattle.fleet_example.specs.Programs.{nth_action, place_xy, nth_visit, is_on_open_map, pair_tasks, rash_pair, early_pair, hasty_pair, blocked_pair, blocked_tasks, IsRefusedAt}
use Rattle.fleet_example.specs.Meetings.{loose_relay, MeetBy}
use Rattle.fleet_example.proofs.ComputedHolds.{meet_by}
use Rattle.fleet_example.proofs.ComputedOrder.{refused_at}

pub rash_visits : MeetBy rash_pair (place_xy 1 0) (nth_visit 0 0) (nth_visit 1 1) ((0 ∷ []) ∷ [])
rash_visits = meet_by rash_pair (place_xy 1 0) (nth_visit 0 0) (nth_visit 1 1) (0 ∷ 1 ∷ []) ([] ∷ [] ∷ []) 1 refl

pub rash_refused : IsRefusedAt (is_on_open_map 4 1) pair_tasks rash_pair (place_xy 1 0)
rash_refused = refused_at (is_on_open_map 4 1) 1 rash_pair (place_xy 1 0) (nth_visit 0 0) (nth_visit 1 1) rash_visits.unordered refl

pub early_visits : MeetBy early_pair (place_xy 2 0) (nth_visit 0 1) (nth_visit 1 2) ([] ∷ (0 ∷ []) ∷ (0 ∷ []) ∷ [])
early_visits = meet_by early_pair (place_xy 2 0) (nth_visit 0 1) (nth_visit 1 2) (1 ∷ 2 ∷ []) ((nth_action 1 2 ∷ []) ∷ [] ∷ []) 3 refl

pub early_refused : IsRefusedAt (is_on_open_map 4 1) pair_tasks early_pair (place_xy 2 0)
early_refused = refused_at (is_on_open_map 4 1) 1 early_pair (place_xy 2 0) (nth_visit 0 1) (nth_visit 1 2) early_visits.unordered refl

pub hasty_visits : MeetBy hasty_pair (place_xy 1 0) (nth_visit 0 0) (nth_visit 1 1) ([] ∷ (0 ∷ []) ∷ [])
hasty_visits = meet_by hasty_pair (place_xy 1 0) (nth_visit 0 0) (nth_visit 1 1) (1 ∷ 1 ∷ []) ((nth_action 1 1 ∷ []) ∷ [] ∷ []) 2 refl

pub hasty_refused : IsRefusedAt (is_on_open_map 4 1) pair_tasks hasty_pair (place_xy 1 0)
hasty_refused = refused_at (is_on_open_map 4 1) 2 hasty_pair (place_xy 1 0) (nth_visit 0 0) (nth_visit 1 1) hasty_visits.unordered refl

pub blocked_visits : MeetBy blocked_pair (place_xy 1 0) (nth_visit 0 0) (nth_visit 1 1) ([] ∷ [])
blocked_visits = meet_by blocked_pair (place_xy 1 0) (nth_visit 0 0) (nth_visit 1 1) (0 ∷ 1 ∷ []) ([] ∷ [] ∷ []) 1 refl

pub blocked_refused : IsRefusedAt (is_on_open_map 4 1) blocked_tasks blocked_pair (place_xy 1 0)
blocked_refused = refused_at (is_on_open_map 4 1) 1 blocked_pair (place_xy 1 0) (nth_visit 0 0) (nth_visit 1 1) blocked_visits.unordered refl

pub relayed_visits : MeetBy loose_relay (place_xy 1 0) (nth_visit 0 0) (nth_visit 2 1) ((0 ∷ []) ∷ (0 ∷ []) ∷ [])
relayed_visits = meet_by loose_relay (place_xy 1 0) (nth_visit 0 0) (nth_visit 2 1) (0 ∷ 1 ∷ 1 ∷ []) ([] ∷ (nth_action 2 1 ∷ []) ∷ [] ∷ []) 2 refl
