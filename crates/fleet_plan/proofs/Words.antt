-- The words that proofs here cite of std, of programs and maps, and of the specs of this crate.
pub use Rattle.std.proofs.Common.{◌≡◌, arith, length, sym, ◌∙◌, ◌≤◌, ◌<◌, ℕ, ap, [], subst, ◌+◌, ◌∷◌, Some, List, inl, inr, get_or, refl, ◌++◌, false, Option, None, take, true, ◌⊎◌, slice_index, ◌-◌, ◌≢◌, Bool, All, zero, suc, slice_get, sum_by, rules, map, ◌*◌, ltb, IfSome, IfNone, take_all, eqb, cond, option_map, Result, Ok, Err, IsTrue, ◌==◌, min, set, filter, append_assoc, Contains, drop, leb, max, below_more, is_some, not, count_by, map-id, ◌↔◌, pos, ◌+ℤ◌, ◌-ℤ◌, replicate}
pub use Rattle.std.proofs.lemmas.Bool.{cases_lt, cases_eq, cases_Bool, lt-ltb, le-ltb, eqb-true, le-leb, lt-leb, cases_order, ltb-true, ltb-false, leb-false, leb-true, ne_eqb, or_cases, iff_false}
pub use Rattle.std.proofs.lemmas.Int.{ints}
pub use Rattle.std.proofs.lemmas.List.{length-append, get_or_default, append-nil, get_or_past, get_or-set_same, get_or-set_other, with_items_is, length-map, length-drop, get_or_read, take_more, length-set, get_or-replicate, length-replicate, take_rest}
pub use Rattle.std.proofs.lemmas.List.Elements.{recursion_from_All, All-from_recursion, All-more, All-filter}
pub use Rattle.std.proofs.lemmas.List.Filters.{FiltersInPlace, FiltersInPlace-more_no, FiltersInPlace-more_set}
pub use Rattle.std.proofs.lemmas.List.FromFn.{length-range_with_len, length-map-range_with_len, get_or-map-range_with_len, get_or-range_with_len, map-range_with_len_more}
pub use Rattle.std.proofs.lemmas.List.Sums.{sum_by-cons, sum_by_push, sum_by_more, suffix_len_is, sum_by-set}
pub use Rattle.std.proofs.lemmas.Map.Keys.{IsDistinct-tail}
pub use Rattle.std.proofs.lemmas.Map.Steps.{length-le_from_distinct_below}
pub use Rattle.std.proofs.lemmas.Option.{get_or_from_slice_get, slice_get_within, none-some, same_Some}
pub use Rattle.std.proofs.lemmas.Result.{err_from_is_err_and}
pub use Rattle.std.specs.Int.{abs_diff}
pub use Rattle.std.specs.List.{AllByRecursion, slice_split, range_with_len, AllZip, onto_first, list_any}
pub use Rattle.std.specs.Prelude.{EachIndex, option_and_then, decimal}
pub use Rattle.fleet_grid.specs.Ground.{is_passable, cell_index, Ground, IsGround}
pub use Rattle.fleet_grid.specs.Table.{value_in, IsSet}
pub use Rattle.fleet_grid.specs.declared.table.Table.{Table}
pub use Rattle.fleet_model.proofs.Cells.{place_of-injective, cell_cases, cell_from_parts}
pub use Rattle.fleet_model.specs.Answer.{IsDueUnless}
pub use Rattle.fleet_model.specs.Conflict.{after_in, HasVertexConflict, HasSwappingConflict}
pub use Rattle.fleet_model.specs.Geometry.{place_of, is_same_cell, moved}
pub use Rattle.fleet_model.specs.Machine.{indices}
pub use Rattle.fleet_model.specs.Program.{IsCell, origin}
pub use Rattle.fleet_model.specs.declared.geometry.Cell.{Cell}
pub use Rattle.fleet_model.specs.declared.geometry.Dir.{Dir}
pub use Rattle.fleet_model.specs.declared.geometry.Dir.TheVariants.{North, East, South, West}
pub use Rattle.fleet_model.specs.declared.geometry.Place.{Place}
pub use Rattle.fleet_model.specs.declared.limits.TheConstants.{MAX_AGENTS, MAX_HORIZON, MAX_COORDINATE}
pub use Rattle.fleet_model.specs.declared.task.Task.{Task}
pub use Rattle.fleet_plan.specs.CellReading.{begins_with_word, after_comma, after_word}
unfoldable pub use Rattle.fleet_plan.specs.CellReading.{after_blanks, cell_front}
pub use Rattle.fleet_plan.specs.FirstFault.{IsRightAt, GoesRight, HasNoConflict, path_of, StartsOnStart, EndsOnGoal, time_of, IsFirstConflict, GoesOver, IsFirstFaultyAgent, IsFirstStep, HasStartsAndGoals, IsPairUpTo, IsKindUpTo, IsConflictUpTo, IsFirstPlanFault, HasConflict, IsFirstTime}
pub use Rattle.fleet_plan.specs.Numbers.{end_of, moves_of, waits_of, stays_in}
unfoldable pub use Rattle.fleet_plan.specs.Numbers.{cost_of, moves_before, stays_before}
pub use Rattle.fleet_plan.specs.Plan.{Plan, Path, IsPath, IsWithinLimits, motion_of, AreNeighbours, IsConflictFree, IsFleet}
unfoldable pub use Rattle.fleet_plan.specs.Plan.{cell_at, cell_of, steps, last_cell}
pub use Rattle.fleet_plan.specs.PlanReading.{enough_paths, some_cells, too_long}
unfoldable pub use Rattle.fleet_plan.specs.PlanReading.{spelled_cells, paths_at, path_at}
pub use Rattle.fleet_plan.specs.PlanText.{plan_text, path_text, cell_of_parts, ArePlanLines, cell_text, StandsForPath, SpellsPath, IsRightLine, ReachesPlanLine, IsFirstPlanLineFault, IsPlanText}
unfoldable pub use Rattle.fleet_plan.specs.PlanText.{spelled_cell}
pub use Rattle.fleet_plan.specs.Rings.{ahead_of, NamesAgents, Leads, IsOnRing, LeadsTo, walk_of, IsLeastOnRing, IsWalked, AreClosed}
pub use Rattle.fleet_plan.specs.Sweep.{Exchange, IsAhead, IsAgentSettled, AreAhead, HasNoMeeting, IsFirstIn, IsFreeIn, HasNone, StandOnMap, StandOnPlaces, Meet, IsFirstMeeting, IsFirstExchange, IsEntered, SweepRows, HasNoExchange, NamesMovers, IsSweep, IsSwept, AreFresh, HasComeTo, HaveArrived, IsFirstAhead, IsFreeAhead}
pub use Rattle.fleet_plan.specs.UnderWay.{IsSoForOthers, is_under_way, Covers, IsComing}
pub use Rattle.fleet_plan.specs.declared.plan_fault.Conflict.{Conflict}
pub use Rattle.fleet_plan.specs.declared.plan_fault.Conflict.TheVariants.{Vertex, Swapping, Cycle}
pub use Rattle.fleet_plan.specs.declared.plan_fault.PlanFault.{PlanFault}
pub use Rattle.fleet_plan.specs.declared.reading.TheConstants.{MAX_CELLS}
pub use Rattle.fleet_plan.specs.declared.text_fault.TextFault.{TextFault}
pub use Rattle.fleet_plan.specs.declared.text_fault.TextFault.TheVariants.{Form, Length, AgentCount, OutOfMemory}
pub use Rattle.fleet_text.proofs.StepLaws.{some_ok, one_value, bind_err, right_err, some_err, err_is, ok_err, none_some, Tells, heads_are, next_is, next_again, bind_ok, right_ok, ok_is, one_verdict}
pub use Rattle.fleet_text.proofs.TextLaws.{words_blank, digit_no_blank, small_number_is}
pub use Rattle.fleet_text.proofs.WrittenLaws.{each_spaced, line_more, spells, small_is, From, apart_from, from_less, from_append, from_join, decimal_from, split_first, split_last, IsToken, tokens_from, word_some, front_join, lines_written, spaced_more, line_written}
pub use Rattle.fleet_text.specs.Steps.{◌>>=◌, ◌>>◌, right_or, some_or}
pub use Rattle.fleet_text.specs.Text.{Bytes, lines, starts_blank, is_blank, words_from_front, is_word, is_digit, small}
unfoldable pub use Rattle.fleet_text.specs.Text.{words, number, small_number, digits_front, number_front, number_after, small_number_front}
