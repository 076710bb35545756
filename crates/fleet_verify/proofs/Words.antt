-- The words that proofs here cite of std, of programs and chains, and of maps.
pub use Rattle.std.proofs.Common.{EachIndex, ◌≡◌, ℕ, zero, suc, ◌<◌, ◌≤◌, Bool, true, List, [], length, Some, nat_le, ap, ◌∙◌, subst, arith, inl, inr, leb-true, le-leb, Contains, ◌+◌, ◌∷◌, get_or, refl, ap₂, subst₂, false, ◌-◌, ◌++◌, sym, slice_index, add-one, map, filter, ◌⊎◌, ◌==◌, ◌↔◌, nat_lt, eqb-true, eq-eqb, ltb-true, lt-ltb, append-nil, ext_get_or, not, ◌&&◌, Option, None, cond, IsTrue, slice_get, option_map, ◌≢◌, map-id, sum_by, count_by, reverse, IfSome, IfNone, All, leb-false, false-eqb, AllPairs, append_assoc, drop, ne_eqb, set, get_or-set_same, get_or-set_other, length-set, pos, ◌+ℤ◌, ◌≤ℤ◌, ℤ, negsuc, ◌<ℤ◌, take, get_or-append-add, take_at, ◌||◌, if◌then◌else◌, length-append, int_eq, flat_map, rules, IsSome, is_none, unwrap_or, le-ltb, below_more, take_all, nat_eq, Err, IfOk, Ok, Result, codes, decimal, eqb, max, replicate, leb, ◌%◌, ◌/◌}
pub use Rattle.std.proofs.Math.Bool.{and-false, and-true}
pub use Rattle.std.proofs.Math.Seq.{get_or-append_seam}
pub use Rattle.std.proofs.lemmas.Bool.{cases_lt, cases_eq, or_cases, or_left, or_right, cases_order, and_parts, and_from, cases_Bool, and_right, cond-true, cond-false, not-true, false≢true, true≢false}
pub use Rattle.std.proofs.lemmas.Bool.Decides.{nat_tests, Decides-int_eq}
pub use Rattle.std.proofs.lemmas.Int.{ints}
pub use Rattle.std.proofs.lemmas.List.{map-append, get_or_past, get_or_append_left, get_or_push, length_push, get_or-map, reverse-append, get_or_default, length-map, take-map, drop-map, take_more, get_or-append_right, get_or-reverse, length-reverse, map_push, get_or-replicate, length-replicate, set-get_or, take-replicate}
pub use Rattle.std.proofs.lemmas.List.Elements.{filter-append, Contains-push, Contains-push_cases, Contains-append_left, All-push, All-append, All-map}
pub use Rattle.std.proofs.lemmas.List.Folds.{list_any_at, Any-from_list_any}
pub use Rattle.std.proofs.lemmas.List.FromFn.{length-range_with_len, get_or-range_with_len, map-range_with_len_more, get_or-map-range_with_len, length-map-range_with_len}
pub use Rattle.std.proofs.lemmas.List.Kept.{AllPairs-from_increasing, IsStrictlyIncreasing-filter, AllPairs-filter}
pub use Rattle.std.proofs.lemmas.List.Quantifiers.{all_pairs_push}
pub use Rattle.std.proofs.lemmas.List.Sums.{sum_by-append, sum_by-cons, sum_by_push, sum_by-le-sum_by, AllPass-from_list_all}
pub use Rattle.std.proofs.lemmas.Option.{slice_get-get_or, same_Some, none-some, slice_get_past, slice_get_within, get_or_from_slice_get, slice_get-map}
pub use Rattle.std.proofs.lemmas.Result.{IfOk-weaker, err_from_is_err_and}
pub use Rattle.std.specs.Cmp.{both_ways, nat_eq_equiv}
pub use Rattle.std.specs.List.{range_with_len, list_any, position, position_or_len}
unfoldable pub use Rattle.std.specs.List.{IsDistinct}
pub use Rattle.std.specs.List.Sorted.{IsStrictlyIncreasing, IsPartitionPoint}
pub use Rattle.std.specs.Option.{option_map_or, option_or}
pub use Rattle.fleet_grid.proofs.StoredLaws.{off_map}
pub use Rattle.fleet_grid.specs.Ground.{Ground, IsGround, is_passable, passable_at}
pub use Rattle.fleet_machine.proofs.Ready.{awaited_agent}
pub use Rattle.fleet_machine.specs.Machine.{flag_of, Runs, MachineState, moving_flags}
pub use Rattle.fleet_model.proofs.Cells.{is_same_place-true, is_same_place-eq, place_of-injective}
pub use Rattle.fleet_model.proofs.Chains.{stays_to, Reaches-refl, Reaches-rises, Reaches-need, but_last, chain_first, chain_last, chain_join, own_reach, Reaches-trans, ends_dearer, need_action, LastStep, chain_ends_by_step, next_upto, stay_on, ends_more, ends_one, ends_within, Reaches-first, Reaches-last, Reaches-kept, IsIn, is_in, ends_long, ends_action, numbers_bound, longest_is_one, chain_rises, ends_by, ends_alone, chain_push, chain_cost_push, past_moves}
pub use Rattle.fleet_model.proofs.Indices.{indices-more}
pub use Rattle.fleet_model.proofs.OnePass.{AwaitsFrom, any_begins, awaits_are, awaits_from, no_awaits}
pub use Rattle.fleet_model.proofs.Pigeon.{IsRepeat, repeated}
pub use Rattle.fleet_model.proofs.Tick.{tick_agree, path_more, ready_left, ready_met, unready_waits, standing_at_tick, standing_at_past, standing_at_opening, free_moves, other_stays, fails_at, length_opening}
pub use Rattle.fleet_model.proofs.Totals.{moves_more, few_awaits_of, actions_more}
pub use Rattle.fleet_model.specs.Accepted.{IsRight, IsAcceptedBy, IsAccepted, HasTasks}
pub use Rattle.fleet_model.specs.Breaking.{IsNeededFor, IsHeldBack, AreBreakingHolds, MeetOn, IsPrepared}
pub use Rattle.fleet_model.specs.Chain.{IsAction, Reaches, IsNumbering, DirectlyNeeds, awaited, ChainFrom, EndsChainOfCost, IsCriticalCost, IsLevel, EndsChain, unit_cost, IsLongestChain}
pub use Rattle.fleet_model.specs.Claims.{order_of, Claims, KeepsOrder, MayBeOn, is_new, orders_given, holds_of, AreApart}
pub use Rattle.fleet_model.specs.Conflict.{Motion, HasVertexConflict, HasFollowingConflict, HasCycleConflict}
pub use Rattle.fleet_model.specs.Dispatch.{Dispatch, OrdersAwait, IsCarriedOut, IsPrompt}
pub use Rattle.fleet_model.specs.Geometry.{place_of, stepped, is_move, IsInReach, is_same_place}
pub use Rattle.fleet_model.specs.Machine.{count_at, run, is_finished, IsLeast, place_at, Holds, is_held, is_among, opening, indices, Configuration, tick, IsDone, standing_at, next_action, is_ready, IsReached, IsDue, is_met, IsFinish, is_ready_held, held_ticks, is_stuck, is_over, finished_one, standing_after, IsEnd, moved_in, is_moving}
pub use Rattle.fleet_model.specs.Program.{Program, moves, awaits_of, IsWellFormed, AreInRange, total_moves, actions_of, path, step_of, AreMoves, NeverStays, start_of, IsCell, IsInRange, origin, goal_of, walked, AreAwaits, awaits_before}
pub use Rattle.fleet_model.specs.Progress.{IsOfLeastLevel, Progresses, IsFinishedInTime}
pub use Rattle.fleet_model.specs.Run.{RunsWell, motion, IsFree, HasBegun, HasLeft, IsOwnedInTurn, RunsRight, IsSafe, IsSafeStep, Arrives}
pub use Rattle.fleet_model.specs.RunSchedule.{IsFinishedIn, IsScheduleOf, BeginsWhenDue, is_held_up, held_up_ticks, ticks_taken, TakesOneTick}
pub use Rattle.fleet_model.specs.Schedule.{Schedule, IsSchedule, HasBegunBy, HasEndedBy, NeedsNoStalled, EndInTime, TakeAtLeast, MayBeOnAt, IsSafeSchedule, IsBy}
pub use Rattle.fleet_model.specs.Visit.{next_move, IsVisitOf, entering, leaving, AreUnordered, IsVisit, ComesAfterByChain, is_entry, ListsVisits, Adjacent, IsOrderly, stays_before, IsLaterVisit, ComesAfterByAwait, ComesAfter}
pub use Rattle.fleet_model.specs.declared.geometry.Cell.{Cell}
pub use Rattle.fleet_model.specs.declared.geometry.Dir.TheVariants.{North, East, South, West}
pub use Rattle.fleet_model.specs.declared.geometry.Place.{Place}
pub use Rattle.fleet_model.specs.declared.geometry.Step.{Step}
pub use Rattle.fleet_model.specs.declared.geometry.Step.TheVariants.{Go, Dwell}
pub use Rattle.fleet_model.specs.declared.limits.TheConstants.{MAX_COORDINATE, MAX_AGENTS, MAX_MOVES_IN_ALL}
pub use Rattle.fleet_model.specs.declared.program.Action.{Action}
pub use Rattle.fleet_model.specs.declared.program.ActionId.{ActionId}
pub use Rattle.fleet_model.specs.declared.program.AgentProgram.{AgentProgram}
pub use Rattle.fleet_model.specs.declared.program.Await.{Await}
pub use Rattle.fleet_model.specs.declared.program.Visit.{Visit}
pub use Rattle.fleet_model.specs.declared.standing.Standing.{Standing}
pub use Rattle.fleet_model.specs.declared.task.Task.{Task}
pub use Rattle.fleet_needs.proofs.Walking.{own_cost, IsBound, bound_of, bound_on}
pub use Rattle.fleet_needs.specs.Asked.{AreAnswers, IsQuestion}
pub use Rattle.fleet_needs.specs.Critical.{IsNumberedTo, critical_cost}
pub use Rattle.fleet_needs.specs.Order.{IsOrderTo, IsLevelOrder}
pub use Rattle.fleet_needs.specs.declared.questions.Question.{Question}
pub use Rattle.fleet_text.proofs.SinkLemmas.{gathers_err, gathers_then, lists_with_spaces, passed_element, passed_words, stops_before, stops_within_element, stops_within_more, stops_within_words, takes_err, takes_rest}
pub use Rattle.fleet_text.specs.Row.{PassesOn}
pub use Rattle.fleet_text.specs.Words.{next_words, with_spaces, numbered_text, numbered_words}
pub use Rattle.indexmap.specs.IndexMap.{get, with_value_at, IndexMap, IsUnique, Updates, insert_entry, keys}
pub use Rattle.fleet_verify.specs.Ahead.{level_in, count_in, climbed_in, HasCome, IsAhead, AddsLevel, IsNextLevel, AreCountedUp, IsAheadBy, IsRunner, IsStopped, KeepsOthers, stand, AreBegun, AreDone, IsArrival, IsLastAwait, IsRanked, IsTop, AreEarlier, AreKeptOnGround, AreNeeds, AreRanked, CanGoOn, HaveFinished, IsAwaitOrOwn, IsKeptBack, IsRunOn, NobodyGoesOn, next_in}
pub use Rattle.fleet_verify.specs.Blocked.{IsBlocked, down_from, next_of, nth, WaitsBack, want_at, AreWants, IsUnmet, IsLeastBack}
unfoldable pub use Rattle.fleet_verify.specs.Blocked.{need_of}
pub use Rattle.fleet_verify.specs.Breaking.{is_held_by, held_row}
pub use Rattle.fleet_verify.specs.Chained.{EnterApart, IsAskedOf, IsFlagOf, BeginsLater, AreAmong, AreAsked, AreKnown, BeginsLate, EndApart, IsFoundByAsking, IsFoundOfPairs, key_of}
pub use Rattle.fleet_verify.specs.Covers.{AreCovered}
pub use Rattle.fleet_verify.specs.Faults.{StandsRight, AwaitsRight, EndsRight, HasRanges, EachAction, HasStarts, IsFault, IsFirstBreak, IsUnordered, StartsRight, HasNumbering, IsFirstNumber, IsOfOrder, IsOrderlyAt}
pub use Rattle.fleet_verify.specs.LastVisits.{kept_at}
pub use Rattle.fleet_verify.specs.LevelRows.{HasLevels, AreCostRows}
pub use Rattle.fleet_verify.specs.Listing.{entry_level, IsBefore, IsSooner, AreLevels, IsSortedListing}
pub use Rattle.fleet_verify.specs.Needed.{AreNeeded, AreTwoVisits, AreZeros, IsLooking, IsNeededRow, IsRaised}
unfoldable pub use Rattle.fleet_verify.specs.Needed.{looked_sum}
pub use Rattle.fleet_verify.specs.OpenPairs.{AreVisits, question_of, AnswersFirstBad, IsFlagged, IsChained, IsFirstBad, violation_of}
pub use Rattle.fleet_verify.specs.Order.{AreAdded, number_of, AreAddedBy, AreAllPlaced, AreConsecutive, IsOpenPair, IsPathOrderly, IsVisitPlaced, StandsBefore, entries, AreViolations, IsLastVisit, IsListJudged, IsOpenNext, IsVisitKept, numbered_cell, AreAllAdded, AreGrouped, AreGroupedBy, IsGrouped}
unfoldable pub use Rattle.fleet_verify.specs.Order.{visits_of}
pub use Rattle.fleet_verify.specs.Path.{AnswersFirst, AnswersFirstAction, IsPosition}
pub use Rattle.fleet_verify.specs.Pieces.{level_at, AreRising, levels_to, AreJumps, IsClimb, level_from}
pub use Rattle.fleet_verify.specs.Reduced.{HaveSameChains, DiffersInAwaits, HasLeastAwaits, IsReduced, IsThinned}
pub use Rattle.fleet_verify.specs.RefusalWords.{action_text}
pub use Rattle.fleet_verify.specs.Ring.{IsToldRing, IsActionUpTo, IsRing}
pub use Rattle.fleet_verify.specs.Rising.{last_level, climbed, climbed_by}
pub use Rattle.fleet_verify.specs.Rows.{IsCountedUp, IsRow, IsRowOfNeeds}
pub use Rattle.fleet_verify.specs.Squares.{square_of, IsSquareAt, IsWritten, last_in, place_in_square, visit_in, visit_kept}
pub use Rattle.fleet_verify.specs.Stretch.{path_actions, first_of, stretch_actions, stretch_between}
pub use Rattle.fleet_verify.specs.Times.{TimesParts, EachFits, IsStretchTo, of_agent, AreTimes, IsFreeTo, IsLatest, LeadsBack, AreReached, ArrivesAt, EachFreeTo, HaveArrivedAt, IsCriticalPath, IsLater, IsNeedUntil, IsOwnUntil, IsPathOfCost, IsWayTo, IsWholeTo, broken_cost, AreEnds, FollowsOwn, IsAwaitedUntil, IsOwnBefore, StopsOthers, is_broken, last_action}
pub use Rattle.fleet_verify.specs.Walk.{AreAddedOnGround, AreOnGround, counts_of, moved_to, IsReadyBy, begun_by, AreCounts, HasArrived, IsEnded, IsRunOnGround, IsStop, IsStopAt, LeavesGround, position_in, positions_of}
unfoldable pub use Rattle.fleet_verify.specs.Walk.{begun_in}
pub use Rattle.fleet_verify.specs.declared.ahead.Ahead.{Ahead}
pub use Rattle.fleet_verify.specs.declared.ahead.Needs.{Needs}
pub use Rattle.fleet_verify.specs.declared.ahead.Runner.{Runner}
pub use Rattle.fleet_verify.specs.declared.fault.VerifyFault.{VerifyFault}
pub use Rattle.fleet_verify.specs.declared.fault.VerifyFault.TheVariants.{OutOfMemory, Unordered, AwaitRange, Cyclic, Goal, OtherFleet, Start}
pub use Rattle.fleet_verify.specs.declared.last_visits.TheConstants.{NO_VISIT, CELLS}
pub use Rattle.fleet_verify.specs.declared.level_row.Piece.{Piece}
pub use Rattle.fleet_verify.specs.declared.order.OpenPair.{OpenPair}
pub use Rattle.fleet_verify.specs.declared.order.OrderViolation.{OrderViolation}
pub use Rattle.fleet_verify.specs.declared.order.PlacedVisit.{PlacedVisit}
pub use Rattle.fleet_verify.specs.declared.order.VisitOrder.{VisitOrder}
pub use Rattle.fleet_verify.specs.declared.stretch.Stretch.{Stretch}
pub use Rattle.fleet_verify.specs.declared.times.TheConstants.{LONGEST}
