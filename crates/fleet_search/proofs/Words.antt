-- The words that proofs here cite of std, of programs and maps, and of the specs of this crate.
pub use Rattle.std.proofs.Common.{arith, subst, ◌∙◌, sym, ap, ◌≡◌, length, ◌<◌, ◌+◌, ◌≤◌, ℕ, inr, [], inl, List, ◌-◌, ◌∷◌, get_or, ◌++◌, refl, Some, None, ◌⊎◌, suc, ◌≢◌, Option, Bool, zero, ◌==◌, take, false, IfNone, IsTrue, Contains, cond, add-one, true, IfSome, not, max, drop, ◌↔◌, All, set, IsPermutation, take_all, take_at, map, ◌*◌, rules, is_some, take-append-drop, remove, append_assoc, get_or-set_same, get_or-set_other, min, length-set, length-append, insert, eqb, zero-add, suc-add, ext_get_or, ◌/◌, ◌%◌, option_to_list, reverse, leb, IfErr}
pub use Rattle.std.proofs.Math.Dec.{ltb}
pub use Rattle.std.proofs.lemmas.Bool.{cases_eq, cases_lt, eq-eqb, eqb-true, false_from_ne_true, ne_eqb, both_ways, eqb-false, leb-true, lt-ltb, ltb-true, or_cases, leb-false, not-false}
pub use Rattle.std.proofs.lemmas.Int.{ints}
pub use Rattle.std.proofs.lemmas.List.{length_push, get_or_push, get_or_append_left, get_or_default, get_or_past, take_more, length-map, take-take, get_or-take, take-append-le, get_or-map, length-take, get_or-reverse, length-reverse, get_or_read, length-take-le, with_items_is}
pub use Rattle.std.proofs.lemmas.List.Edits.{length-insert, get_or-insert_below, get_or-insert_at, get_or-insert_above}
pub use Rattle.std.proofs.lemmas.List.Elements.{Contains-append_left, Contains-push, Contains-push_cases, filter-append}
pub use Rattle.std.proofs.lemmas.List.FromFn.{length-range_with_len, get_or-range_with_len}
pub use Rattle.std.proofs.lemmas.List.Sorted.{IsPermutation-refl, length_permutation, All-permutation, Contains-permutation, IsPermutation-sym, IsPermutation-trans, IsPermutation-insert, IsPartitionPoint-from_clause, IsPartitionedBy-leb}
pub use Rattle.std.proofs.lemmas.List.Sums.{sum_by-set, sum_by_push}
pub use Rattle.std.proofs.lemmas.Map.Keys.{IsDistinct-IsPermutation, apart_from_distinct, IsDistinct-head, IsDistinct-tail}
pub use Rattle.std.proofs.lemmas.Map.Steps.{length-le_from_distinct_below}
pub use Rattle.std.proofs.lemmas.Nat.{mul-add-lt, same_from_place, div-mul-add, mod-mul-add}
pub use Rattle.std.proofs.lemmas.Option.{slice_get_within, same_Some, slice_get-get_or, none-some, slice_get-map, get_or_from_slice_get}
pub use Rattle.std.proofs.lemmas.Result.{on_ok_weaker, IfOk-weaker, IfErr-weaker, err_from_is_err_and}
pub use Rattle.std.specs.Int.{abs_diff}
pub use Rattle.std.specs.List.{AllByRecursion, range_with_len, sum_by, list_any}
pub use Rattle.std.specs.List.Sorted.{IsPartitionPoint}
pub use Rattle.std.specs.Prelude.{slice_get, option_map, Vec, unwrap_or, MatchOption, Result, Ok, Err, OnOk, OnErr}
pub use Rattle.std.specs.declared.alloc.Global.{Global}
pub use Rattle.fleet_grid.proofs.Pages.{items-set, items-other, items-past, items-read}
pub use Rattle.fleet_grid.proofs.StoredLaws.{off_map}
pub use Rattle.fleet_grid.specs.Ground.{is_passable, cell_index, IsGround, Ground}
pub use Rattle.fleet_grid.specs.Lists.{key_of_cell}
pub use Rattle.fleet_grid.specs.Table.{items_at}
pub use Rattle.fleet_model.proofs.Cells.{place_of-injective, is_same_cell-true, is_same_cell-false, cell_cases, is_same_cell-eq}
pub use Rattle.fleet_model.proofs.Pigeon.{pigeonhole}
pub use Rattle.fleet_model.specs.Conflict.{HasSwappingConflict, HasCycleConflict, after_in, Motion, HasVertexConflict}
pub use Rattle.fleet_model.specs.Geometry.{place_of, moved, is_same_cell}
pub use Rattle.fleet_model.specs.Machine.{indices}
pub use Rattle.fleet_model.specs.Program.{origin}
pub use Rattle.fleet_model.specs.declared.geometry.Cell.{Cell}
pub use Rattle.fleet_model.specs.declared.geometry.Dir.{Dir}
pub use Rattle.fleet_model.specs.declared.geometry.Dir.TheVariants.{North, East, South, West}
pub use Rattle.fleet_model.specs.declared.geometry.Place.{Place}
pub use Rattle.fleet_model.specs.declared.limits.TheConstants.{MAX_HORIZON}
pub use Rattle.fleet_model.specs.declared.task.Task.{Task}
pub use Rattle.fleet_plan.specs.Checked.{IsCheckedFor}
pub use Rattle.fleet_plan.specs.Plan.{Plan, motion_of, IsConflictFree, AreNeighbours, AreBeside, IsPath}
unfoldable pub use Rattle.fleet_plan.specs.Plan.{cell_at, cell_of, last_cell}
pub use Rattle.fleet_search.specs.Attempts.{IsOrderOf, AreTables, IsMadeBefore, IsPathAdded, IsOldPath, IsTurn, AreReservedInOrder, IsFor, IsTurnOf, ArePathsKept, IsMadeAfterFirst}
pub use Rattle.fleet_search.specs.Best.{Outcome, Planned, NoPathAt, order_after, order_after_all, IsOutcome, AreOutcomes, IsFirstLeast}
pub use Rattle.fleet_search.specs.Bound.{IsSumOfDistances, IsDistance}
pub use Rattle.fleet_search.specs.Distance.{DistanceTable, IsOnGround, IsSpreadOf, no_label, with_label, IsReady, AreDistances, IsPutFrom, IsLabelNear, label_of_search, IsClosed, IsWaiting, IsSpread, IsOnBound, LabelsFall, IsFoundTowards, IsLabelledTowards, label_weight, IsSameSearch, IsSearchFor, HasSpread, IsLayerDone}
unfoldable pub use Rattle.fleet_search.specs.Distance.{manhattan, work_left, label_in, least_moves, heuristic}
pub use Rattle.fleet_search.specs.Earliest.{IsInfeasible, IsEarliest, IsFeasiblePath}
pub use Rattle.fleet_search.specs.Frontier.{Exploration, IsNodeTaken, AreNodePlaces, IsBucketDone, IsAdded}
pub use Rattle.fleet_search.specs.InTurn.{IsPrioritisedPlan, HasNoPathFor}
pub use Rattle.fleet_search.specs.Intervals.{AreBegun, IsInInterval, IsEndAfter, IsEarliestWithin, AreSuccessive}
pub use Rattle.fleet_search.specs.Labels.{earliest_in, Times, IsLabelSet, IsSeen, LabelState, AreLabels, no_interval_label, interval_label, IsLabelPut}
pub use Rattle.fleet_search.specs.Links.{place_in}
pub use Rattle.fleet_search.specs.Occupancies.{AreOccupanciesOn, occupancy_at, AreInOrder, no_occupancy, IsDuring, without, HaveOccupancies, IsPutIn, occupancies_of, AreReserved, IsOccupancyOn, IsOccupancyAdded}
pub use Rattle.fleet_search.specs.Orders.{tasks_by, IsStuckInTries, IsMadeInOrder, no_task, to_front, IsStuckInOrder, paths_by, IsMadeInTry, IsMadeInTries}
unfoldable pub use Rattle.fleet_search.specs.Orders.{IsOrderAfter}
pub use Rattle.fleet_search.specs.Reserved.{IsUnoccupied, IsFreeOn, StandsOn, IsFreeFrom, LeadsBack}
pub use Rattle.fleet_search.specs.Rows.{bucket_of, lists_of}
pub use Rattle.fleet_search.specs.Search.{state_in, occupancies_on, IsFrontier, IsStep, IsFrontierOf, IsMeasured, heuristic_of, IsGoalState, IsSuperseded, IsStateSettled, IsExpansion, ExpandsOn, IsFoundIn, IsFoundFrom, parent_in, IsReachedFrom, IsTrail, IsBucket, IsKnown, IsMove, IsCovered, IsExpanded, earliest_of, IsPosed, WasOpen, least_arrival, no_node, IsSoundNode, Grows, IsFreeUntil, IsFoundAt, IsFoundInDir, Finds}
pub use Rattle.fleet_search.specs.Trying.{IsBestSoFar, outcome_of, IsTried}
pub use Rattle.fleet_search.specs.Way.{Fits, arrival, with_path, FitTogether, Follow, StepFits, AreConflictFree, EachStepFits}
pub use Rattle.fleet_search.specs.declared.best.Measured.{Measured}
pub use Rattle.fleet_search.specs.declared.distances.Label.{Label}
pub use Rattle.fleet_search.specs.declared.fault.PlanStop.{PlanStop}
pub use Rattle.fleet_search.specs.declared.fault.PlanStop.TheVariants.{OutOfMemory}
pub use Rattle.fleet_search.specs.declared.frontier.Expansion.{Expansion}
pub use Rattle.fleet_search.specs.declared.frontier.Link.{Link}
pub use Rattle.fleet_search.specs.declared.frontier.Node.{Node}
pub use Rattle.fleet_search.specs.declared.frontier.Query.{Query}
pub use Rattle.fleet_search.specs.declared.frontier.State.{State}
pub use Rattle.fleet_search.specs.declared.intervals.Occupancy.{Occupancy}
pub use Rattle.fleet_search.specs.declared.intervals.TheConstants.{FOREVER}
pub use Rattle.fleet_search.specs.declared.intervals.IntervalLabel.{IntervalLabel}
pub use Rattle.fleet_search.specs.declared.intervals.LabelTable.{LabelTable}
pub use Rattle.fleet_search.specs.declared.orders.Problem.{Problem}
pub use Rattle.fleet_search.specs.declared.reservations.ReservationTable.{ReservationTable}
