-- The words that proofs here cite of std, of programs and machines, and of the specs of this crate.
pub use Rattle.std.proofs.Common.{◌≡◌, ◌∙◌, ap, ℕ, sym, arith, length, ◌+◌, List, [], refl, subst, take, ◌++◌, ◌≤◌, ◌<◌, false, ◌∷◌, true, Some, None, inl, inr, get_or, Bool, ◌-◌, Option, nat_le, append-nil, suc, cond, nat_lt, drop, Ok, Err, zero, not, take_all, map, append_assoc, Result, leb-true, set, ltb-true, le-leb, position, replicate, ◌≢◌, rules, ◌&&◌, Contains, add-one, lt-ltb, get_or-set_same, length-set, ◌*◌, length-append, length-drop, eq-eqb, slice_get, option_map, get_or-set_other, leb-false, length-take, ◌⊎◌, ◌==◌, option_and_then, eqb-true, All, ltb, add-zero, unwrap_or, decimal, max, slice_range, sum_by}
pub use Rattle.std.proofs.Math.Bool.{and-false}
pub use Rattle.std.proofs.Math.ListN.{get_or-append}
pub use Rattle.std.proofs.Math.Nat.{mul-le-mul_left}
pub use Rattle.std.proofs.Math.Seq.{get_or-append_seam}
pub use Rattle.std.proofs.lemmas.Bool.{cases_lt, cases_eq, cases_Bool, and_parts, lt-leb, ltb-false, ne_eqb, le-ltb, cond-true, false_from_ne_true, false≢true, eqb-false}
pub use Rattle.std.proofs.lemmas.Bool.Decides.{nat_tests}
pub use Rattle.std.proofs.lemmas.Grind.{common_steps}
pub use Rattle.std.proofs.lemmas.Int.{ints}
pub use Rattle.std.proofs.lemmas.List.{get_or_past, take_more, drop_all, ext_get_or, get_or-replicate, length-replicate, take-append-le, drop-append-le, take-append-drop, length-take-le, take-take, take-map, get_or-take, length-map, get_or-map, drop-drop, take_rest, get_or-drop, take_at, drop_at, drop-take, map-append, map-set, get_or_default}
pub use Rattle.std.proofs.lemmas.List.Elements.{All-contains, recursion_from_All, All-nil, All-append}
pub use Rattle.std.proofs.lemmas.List.Folds.{prefix_len-append, list_all_at, Any-from_list_any, list_all_more}
pub use Rattle.std.proofs.lemmas.List.FromFn.{get_or-map-range_with_len, length-range_with_len, length-map-range_with_len, get_or-range_with_len, map-range_with_len_more}
pub use Rattle.std.proofs.lemmas.List.Kept.{AllPairs-from_increasing}
pub use Rattle.std.proofs.lemmas.List.Quantifiers.{position-Some}
pub use Rattle.std.proofs.lemmas.List.Splits.{join_with_byte-slice_split, length-slice_split}
pub use Rattle.std.proofs.lemmas.List.Sums.{position_or_len_is, fails_before_first, AllPass-from_list_all, prefix_len-le-length, passes_at_first, list_all-from_AllPass, sum_by-le-sum_by}
pub use Rattle.std.proofs.lemmas.Option.{same_Some, slice_get-get_or, slice_get_within, get_or_from_slice_get, slice_get_cases}
pub use Rattle.std.proofs.lemmas.Result.{err_from_is_err_and}
pub use Rattle.std.specs.Io.KnownBytes.{prepend_known, Keeps}
pub use Rattle.std.specs.List.{list_all, flat_map, position_or_len, range_with_len, slice_split, AllByRecursion, count_by, join_with_byte, find}
pub use Rattle.std.specs.Option.{option_map_or}
pub use Rattle.std.specs.Prelude.{min, codes, IfSome, is_err, IsTrue, if◌then◌else◌, ◌↔◌, is_some, MatchOption, Vec, ℤ, ◌+ℤ◌, ◌-ℤ◌, pos, IfNone, MatchBool, slice_index_or, ⊤}
pub use Rattle.std.specs.Result.{IsErrAnd}
pub use Rattle.std.specs.Str.Lines.{strip_carriage_return}
pub use Rattle.std.specs.Vec.{with_item}
pub use Rattle.std.specs.declared.alloc.Global.{Global}
pub use Rattle.fleet_dispatch.specs.Ahead.{told_at, is_all_done, is_done, AreOrdered, IsOrdered, IsFirstUnordered, is_open, next_actions}
unfoldable pub use Rattle.fleet_dispatch.specs.Ahead.{told_to}
pub use Rattle.fleet_dispatch.specs.Breaks.{breaks_from, named_action, NameActions}
pub use Rattle.fleet_dispatch.specs.Costs.{lists_of, AreRowsOf, entry, noted_by, whose_of, cost_of, cost_line_of, is_of, AreCostsOf, IsCostsFault, no_rows, IsCostOf, AreLow, is_named, last_cost, cost_by, cost_in, IsFirstNoCost}
unfoldable pub use Rattle.fleet_dispatch.specs.Costs.{cost_line_in}
pub use Rattle.fleet_dispatch.specs.Dispatch.{AreTaken, Course, counts_by, reports_in, Left, AreHeard, told_by, counts_now, Dispatches, configuration_at, taken_by, turns_of, MayBeTaken, said_before, said_by, taken_now, left_by, StopsAtLine, IsCut, log_turns}
unfoldable pub use Rattle.fleet_dispatch.specs.Dispatch.{talk_before}
pub use Rattle.fleet_dispatch.specs.Hearing.{EndsLine, HearsLine}
pub use Rattle.fleet_dispatch.specs.Lead.{none_done, counts_at, LeadsWell, movers, movers_by, holds_by, IsRun, is_told_by, is_done_by, may_begin_by, first_time, NeverFalls, IsSafelyLed, OrdersAtOnce, LeadsInTime, MayBeOnOrder, Arrive, is_news, news_by, Rises, is_ordered_at, agent_orders_at, IsToldAt, TellsWhatIsOrdered, resumed, SaysAlike}
unfoldable pub use Rattle.fleet_dispatch.specs.Lead.{dispatch_of, orders_at, orders_in_run, schedule_of}
pub use Rattle.fleet_dispatch.specs.Orders.{agent_orders, order_text, name_text}
unfoldable pub use Rattle.fleet_dispatch.specs.Orders.{new_orders, order_line, closing}
pub use Rattle.fleet_dispatch.specs.Progress.{AreDone, MayBeTold, ProgressState, HasRows, AreCounts, LeadsBut, Leads, is_woken, back, IsSettled, AreTold, IsWoken, CarriesOut}
pub use Rattle.fleet_dispatch.specs.Replay.{IsReplayed, ReplaysTurns, DispatchesAfter, LeadsOn, IsReplay, Replays, logged_in, AreRead, course_from, GoesOn, ReplaysTurn, replay_end}
pub use Rattle.fleet_dispatch.specs.ReplayTalk.{replays_more}
pub use Rattle.fleet_dispatch.specs.Report.{Words, count_of, Counts, counts_after, Line, said_of, words_in, is_repeat, is_taken, Reports, Asks, IsRising, raised, IsBehind}
pub use Rattle.fleet_dispatch.specs.ReportText.{line_of, log_line, words_of, long_number, word_of, word_text, heard_line, report_line, is_colon, report_of, is_question}
pub use Rattle.fleet_dispatch.specs.Session.{left_in, first_course, course_in, TellsOrders, TellsStandings, TakesLine, IsReady, IsOpened, Concludes, IsLineTaken, TakesReport, LogsReport}
pub use Rattle.fleet_dispatch.specs.Standing.{log_course}
pub use Rattle.fleet_dispatch.specs.Standings.{left_line, await_text}
unfoldable pub use Rattle.fleet_dispatch.specs.Standings.{standings_text}
pub use Rattle.fleet_dispatch.specs.Stream.{HasLine, GivesLine, IsMisheard}
pub use Rattle.fleet_dispatch.specs.Talk.{Talk, Told, Heard, Asked, Cut, Tells, Hears, Unlogged, Unheard, Turn, Logged, Misheard, NoMore, IsSaid, IsLogged}
pub use Rattle.fleet_dispatch.specs.Window.{window_rest}
pub use Rattle.fleet_dispatch.specs.declared.costs.CostLine.{CostLine}
pub use Rattle.fleet_dispatch.specs.declared.fault.DispatchFault.{DispatchFault}
pub use Rattle.fleet_dispatch.specs.declared.floor.HearFault.{HearFault}
pub use Rattle.fleet_dispatch.specs.declared.form.ReportForm.{ReportForm}
pub use Rattle.fleet_dispatch.specs.declared.form.ReportForm.TheVariants.{Numbered, Unnumbered}
pub use Rattle.fleet_dispatch.specs.declared.pace.Pace.{Pace}
pub use Rattle.fleet_dispatch.specs.declared.report.Reported.{Reported}
pub use Rattle.fleet_dispatch.specs.declared.report_text.LineKind.{LineKind}
pub use Rattle.fleet_dispatch.specs.declared.report_text.LineKind.TheVariants.{Report, Question}
pub use Rattle.fleet_dispatch.specs.declared.run.DispatchReport.{DispatchReport}
pub use Rattle.fleet_dispatch.specs.declared.run.Session.{Session}
pub use Rattle.fleet_dispatch.specs.declared.run.TheConstants.{MAX_REPORTS}
pub use Rattle.fleet_dispatch.specs.declared.standing.TheConstants.{MOST_AHEAD}
pub use Rattle.fleet_dispatch.specs.declared.times_fault.TimesFault.{TimesFault}
pub use Rattle.fleet_dispatch.specs.declared.times_fault.TimesFault.TheVariants.{Cost}
pub use Rattle.fleet_dispatch.specs.declared.window.TheConstants.{LINE_ROOM}
pub use Rattle.fleet_grid.specs.Ground.{is_passable}
pub use Rattle.fleet_machine.proofs.Opened.{home_of_nobody}
pub use Rattle.fleet_machine.proofs.Ready.{awaited_agent}
pub use Rattle.fleet_machine.proofs.Waking.{fewer}
pub use Rattle.fleet_machine.specs.AgentSet.{AreNoneFrom, IsNextFrom}
pub use Rattle.fleet_machine.specs.Confirmed.{AreAllReady}
pub use Rattle.fleet_machine.specs.Machine.{flag_of}
pub use Rattle.fleet_machine.specs.WaitLists.{home_of, WaitState}
pub use Rattle.fleet_model.proofs.Chains.{bound_below}
pub use Rattle.fleet_model.proofs.Tick.{length-run, fails_at, standing_at_tick, standing_at_opening, some_passes, free_moves, other_stays, unready_waits}
pub use Rattle.fleet_model.specs.Accepted.{IsAcceptedBy}
pub use Rattle.fleet_model.specs.Chain.{IsAction, DirectlyNeeds, awaited}
pub use Rattle.fleet_model.specs.Dispatch.{Dispatch, IsCarriedOut, IsPrompt, OrdersAwait}
pub use Rattle.fleet_model.specs.Geometry.{stepped, place_of}
pub use Rattle.fleet_model.specs.Machine.{indices, Configuration, standing_at, count_at, is_ready, Holds, is_among, is_held, run, is_finished, tick, opening, IsReached}
pub use Rattle.fleet_model.specs.Program.{Program, path, moves, awaits_of, total_moves, step_of, actions_of, IsWellFormed, AreInRange, origin}
pub use Rattle.fleet_model.specs.Schedule.{Schedule, IsBy, IsSchedule, MayBeOnAt}
pub use Rattle.fleet_model.specs.Visit.{ComesAfterByChain}
pub use Rattle.fleet_model.specs.declared.geometry.Dir.TheVariants.{North, East, South, West}
pub use Rattle.fleet_model.specs.declared.geometry.Place.{Place}
pub use Rattle.fleet_model.specs.declared.geometry.Step.{Step}
pub use Rattle.fleet_model.specs.declared.geometry.Step.TheVariants.{Dwell, Go}
pub use Rattle.fleet_model.specs.declared.limits.TheConstants.{MAX_AGENTS}
pub use Rattle.fleet_model.specs.declared.program.Action.{Action}
pub use Rattle.fleet_model.specs.declared.program.ActionId.{ActionId}
pub use Rattle.fleet_model.specs.declared.program.Await.{Await}
pub use Rattle.fleet_model.specs.declared.standing.Standing.{Standing}
pub use Rattle.fleet_model.specs.declared.task.Task.{Task}
pub use Rattle.fleet_needs.specs.declared.critical.TheConstants.{MAX_COST}
pub use Rattle.fleet_text.proofs.PlainLaws.{plain_is_decimal}
pub use Rattle.fleet_text.proofs.SpacedLaws.{dash_is}
pub use Rattle.fleet_text.proofs.TextLaws.{found_at, found_nowhere}
pub use Rattle.fleet_text.proofs.WrittenLaws.{From, from_less, from_append, from_join, decimal_from, apart_from, at_from, keeps_end}
pub use Rattle.fleet_text.specs.Sink.{IsWorking, SinkState}
pub use Rattle.fleet_text.specs.Text.{is_lf, is_space, is_dash, plain_number, Bytes, lines}
pub use Rattle.fleet_text.specs.Words.{place_text, count_line}
pub use Rattle.fleet_text.specs.declared.numbers.TheConstants.{TOO_LONG}
pub use Rattle.fleet_verify.proofs.Claimed.{reports_hold}
pub use Rattle.fleet_verify.proofs.CriticalPaths.{never_stuck}
pub use Rattle.fleet_verify.proofs.Paths.{in_reach, step_from, path_step}
pub use Rattle.fleet_verify.proofs.RunCounts.{count_opening, count_past, run_place, agents_held, start_reached, tick_reached, sum_rises, sum_of_moves}
pub use Rattle.fleet_verify.proofs.Timed.{no_two_on, ahead_schedule, ahead_in_time}
pub use Rattle.fleet_verify.proofs.UnderWay.{on_path}
pub use Rattle.fleet_verify.proofs.Waiting.{IsReadyTo, ready_says, ready_from, step}
pub use borrow.Rule.Slice.PartMut.{put_mid, post_of}
pub use lib.Seq.{take-add}
