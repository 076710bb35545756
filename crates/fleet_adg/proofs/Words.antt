-- The words that proofs here cite of std, of programs and maps, and of the specs of this crate.
pub use Rattle.std.proofs.Common.{◌≡◌, ◌∙◌, ap, length, arith, sym, ◌+◌, ◌<◌, ◌≤◌, subst, ℕ, [], map, refl, List, suc, ◌∷◌, get_or, inl, inr, ◌++◌, Some, true, Bool, take, zero, ◌≢◌, add-one, All, None, filter, Option, cond, false, ◌-◌, Contains, slice_get, option_map, not, sum_by, ◌⊎◌, IsTrue, append-nil, ◌==◌, drop, replicate, Ok, filter_map, min, set, is_some, option_and_then, option_to_list, pos, ◌*◌, ◌↔◌, Result, append_assoc, length-append, ltb, nat_le, negsuc, ℤ, Err, IfOk, eqb, leb, mul-le-mul_right, ◌+ℤ◌, ◌-ℤ◌}
pub use Rattle.std.proofs.lemmas.Bool.{cases_lt, cases_Bool, both_ways, cases_eq, le-ltb, lt-ltb, ne_eqb, and_parts, false_from_ne_true, not-true, not_from_false, eq-eqb, eqb-false, le-leb, and_from, cases_order, false≢true, leb-true, lt-leb, not-false}
pub use Rattle.std.proofs.lemmas.Int.{ints}
pub use Rattle.std.proofs.lemmas.List.{take_all, length-map, map-append, get_or-map, get_or_append_left, get_or_push, length_push, map_push, ext_get_or, get_or_default, get_or_past, length-replicate, length-set, take-append-le, take_more, drop-append-le, get_or-set_other, get_or-set_same, length-take-le, same_lists, take-map}
pub use Rattle.std.proofs.lemmas.List.Concat.{flat_map-append, flat_map-cons}
pub use Rattle.std.proofs.lemmas.List.Elements.{All-contains, All-filter, All-weaker, filter-append, filter_passes, All-from_recursion, All-push, Contains-append_left, Contains-push, All-get_or, All-head, All-map, All-nil, All-tail, Contains-get_or, Contains-push_cases}
pub use Rattle.std.proofs.lemmas.List.FromFn.{get_or-map-range_with_len, length-map-range_with_len, map-range_with_len_more}
pub use Rattle.std.proofs.lemmas.List.Sums.{sum_by-cons, fold_more, fold_push, prefix_len-le-length}
pub use Rattle.std.proofs.lemmas.Option.{slice_get_within, get_or_from_slice_get, none-some, slice_get-get_or, same_Some, slice_get_past, slice_get-map, slice_get_cases}
pub use Rattle.std.specs.List.{range_with_len, fold, flat_map, cons_option, position, AllByRecursion, insert, list_all, position_or_len}
pub use Rattle.std.specs.List.Sorted.{IsStrictlyIncreasing}
pub use Rattle.std.specs.Option.{option_map_or, unwrap_or, option_or}
pub use Rattle.fleet_code.specs.Spelling.{agent, magic, most_count, spelling, two_bytes, CanSpell, SpellsIn, SpellsShortest, count, opcode}
pub use Rattle.fleet_code.specs.Written.{written}
pub use Rattle.fleet_code.specs.declared.format.Version.{Version}
pub use Rattle.fleet_code.specs.declared.format.Version.TheVariants.{One, Two}
pub use Rattle.fleet_grid.specs.Ground.{is_passable, Ground, IsGround, cell_index, IsNoNumber}
pub use Rattle.fleet_model.proofs.Cells.{is_same_cell-eq, is_same_cell-true, place_of-injective, is_same_cell-ne}
pub use Rattle.fleet_model.proofs.Chains.{Reaches-first, Reaches-need, Reaches-trans, chain_first, goes_enters, goes_next, NeverDwells, Reaches-last, Reaches-rises, entry_moves, stay_path}
pub use Rattle.fleet_model.specs.Accepted.{IsAccepted, IsAcceptedBy, IsRight, HasTasks}
pub use Rattle.fleet_model.specs.Chain.{ChainFrom, DirectlyNeeds, IsAction, IsNumbering, Reaches, awaited}
pub use Rattle.fleet_model.specs.Geometry.{place_of, is_same_cell, is_move, moved, stepped}
pub use Rattle.fleet_model.specs.Machine.{indices, count_at, run, Configuration, IsReached, place_at, Holds, is_met}
pub use Rattle.fleet_model.specs.Program.{awaits_of, Program, moves, IsWellFormed, actions_of, origin, AreShort, total_moves, AreInRange, IsCell, NeverStays, goal_of, path, start_of, step_of, AreAwaits, walked, AreMoves}
pub use Rattle.fleet_model.specs.Visit.{IsVisitOf, Adjacent, ComesAfterByAwait, ComesAfterByChain, ListsVisits, entering, leaving, IsOrderly, is_entry, next_move, stays_before}
pub use Rattle.fleet_model.specs.declared.deps.Deps.{Deps}
pub use Rattle.fleet_model.specs.declared.geometry.Cell.{Cell}
pub use Rattle.fleet_model.specs.declared.geometry.Dir.{Dir}
pub use Rattle.fleet_model.specs.declared.geometry.Place.{Place}
pub use Rattle.fleet_model.specs.declared.geometry.Step.{Step}
pub use Rattle.fleet_model.specs.declared.geometry.Step.TheVariants.{Dwell, Go}
pub use Rattle.fleet_model.specs.declared.limits.TheConstants.{MAX_MOVES_V1, MAX_HORIZON, MAX_MOVES, MAX_MOVES_IN_ALL, MAX_AWAIT, MAX_COORDINATE}
pub use Rattle.fleet_model.specs.declared.program.Action.{Action}
pub use Rattle.fleet_model.specs.declared.program.ActionId.{ActionId}
pub use Rattle.fleet_model.specs.declared.program.AgentProgram.{AgentProgram}
pub use Rattle.fleet_model.specs.declared.program.Await.{Await}
pub use Rattle.fleet_model.specs.declared.program.Visit.{Visit}
pub use Rattle.fleet_model.specs.declared.task.Task.{Task}
pub use Rattle.fleet_needs.specs.Implied.{IsImplied}
pub use Rattle.fleet_plan.specs.Plan.{Plan, IsConflictFree, IsWithinLimits, AreNeighbours, IsPath, motion_of}
unfoldable pub use Rattle.fleet_plan.specs.Plan.{cell_of, steps, last_cell}
pub use Rattle.fleet_plan.specs.UnderWay.{is_under_way}
pub use Rattle.fleet_verify.proofs.Listing.{awaits_accepted, two_ordered}
pub use Rattle.fleet_verify.proofs.Members.{filter_has, contains_later}
pub use Rattle.fleet_verify.proofs.SameChains.{run_over, same_moves, thinned_range, accepted_over, longest_over, reduced_chains, thinned_again, thinned_least, thinned_reduced}
pub use Rattle.fleet_verify.specs.Parts.{IsAcceptedFor}
pub use Rattle.fleet_verify.specs.Reduced.{IsThinned, DiffersInAwaits, HaveSameChains, RunEqually}
pub use Rattle.fleet_verify.specs.Rest.{cell_at, rest_action, rest_awaits, StandOn, rest_agent, natural, rest, rest_await, rest_tasks}
pub use Rattle.fleet_adg.specs.Compiled.{compiled_staying, has_few_actions, stay, all_have_few, each_has_few, with_stays, IsLastLeaving, IsLatestVisit, compiled_if_few, compiled_staying_if_few}
unfoldable pub use Rattle.fleet_adg.specs.Compiled.{moves_by, changes_in, entry_awaits, changes, compiled, action_in, last_below, await_of, last_leaving, last_leaving_by, leaves, leavings, leaver, agent_program, moves_in_all, direction}
pub use Rattle.fleet_adg.specs.Leavings.{kind_of, AreLeavingsAt, row_of, leavings_after, with_leaving}
pub use Rattle.fleet_adg.specs.Remaining.{task_of, IsCellNumber, IsOnWay, tasks_of}
pub use Rattle.fleet_adg.specs.Sweep.{all_bytes_by, movers, all_actions_by, under_way, actions_by, move_by, IsOnMap, moves_in}
pub use Rattle.fleet_adg.specs.Thinned.{AreThinnedAgents, AreUnimplied, IsThinnedFor, Adds, AddsActions, AddsAwaits, AreThinnedActions, AddsAction, FitsFirst, IsThinnedAction, IsThinnedAgent}
pub use Rattle.fleet_adg.specs.declared.sweep.Move.{Move}
