-- The words that proofs here cite of std, of programs and maps, and of the specs of this crate.
pub use Rattle.std.proofs.Common.{◌≡◌, arith, length, ◌∙◌, ap, ℕ, sym, ◌+◌, rules, ◌<◌, [], subst, ◌++◌, List, ◌∷◌, ◌≤◌, refl, drop, get_or, take, ◌-◌, None, Some, false, ◌≢◌, Bool, Option, codes, inl, inr, map, true, Err, Ok, Result, cond, suc, zero, ◌*◌, append_assoc, length-append, set, slice_index, add-one, get_or-set_other, length-set, not, pos, append-nil, decimal, get_or-set_same, ◌^◌, ◌⊎◌, All, below_more, ◌&&◌, ◌||◌, IsErr, ap₂, filter, if◌then◌else◌, leb-true, ltb-true, min, nat_le, nat_lt, ℤ, ◌%◌, ◌/◌, ◌==◌}
pub use Rattle.std.specs.Prelude.{IfOk, option_map, is_err, IsFalse, IsOk, IsTrue, OnOk, option_and_then, slice_get}
pub use Rattle.std.proofs.KnownBytes.{Appends-trans}
pub use Rattle.std.proofs.Math.Seq.{drop-append-add, drop-append_seam, take-append-add, drop-cons, get_or-append_seam, set-append_seam}
pub use Rattle.std.proofs.lemmas.Bool.{cases_lt, and_parts, cases_Bool, le-leb, lt-ltb, and_right, cases_eq, ne_eqb, not-false, not-true, or_parts}
pub use Rattle.std.proofs.lemmas.Int.{ints}
pub use Rattle.std.proofs.lemmas.List.{length-drop, take_all, drop_all, length-map, length-take, drop-drop, drop-set-lt, ext_get_or, take-append-le, take_rest, drop-append-le, drop-take, get_or-map, get_or_append_left, get_or_past, map-set, take-append-drop, take_more}
pub use Rattle.std.proofs.lemmas.List.Elements.{recursion_from_All, All-from_recursion}
pub use Rattle.std.proofs.lemmas.Result.{err_from_is_err_and}
pub use Rattle.std.specs.Fmt.{signed_decimal}
pub use Rattle.std.specs.Io.KnownBytes.{Appends}
pub use Rattle.std.specs.List.{slice_split, AllByRecursion, join_with_byte, list_any, copy_within, flat_map, sum_by}
pub use Rattle.std.specs.List.Sorted.{IsStrictlyIncreasing}
pub use Rattle.fleet_grid.specs.Ground.{is_passable}
pub use Rattle.fleet_machine.specs.Looked.{awaiting_in, LooksAt, ready_in, awaits_moving}
pub use Rattle.fleet_machine.specs.Machine.{flag_of, MachineState, Runs, moving_flags}
pub use Rattle.fleet_model.proofs.Tick.{standing_at_tick, length-tick, held_ticks-le, length-run, ready_left, tick_agree}
pub use Rattle.fleet_model.specs.Machine.{Configuration, standing_at, tick, is_finished, run, Holds, is_over, is_ready_held, IsFinish, finished_one, held_ticks, is_moving, is_ready, is_stuck, moved_in, next_action, opening, count_at, indices, is_among, IsLeast, IsReached, is_held, standing_after}
pub use Rattle.fleet_model.specs.Program.{Program, IsWellFormed, awaits_of, moves, actions_of, goal_of, path, start_of}
pub use Rattle.fleet_model.specs.Run.{AreOnGoals, Arrives, IsSafeStep}
pub use Rattle.fleet_model.specs.declared.geometry.Place.{Place}
pub use Rattle.fleet_model.specs.declared.limits.TheConstants.{MAX_AGENTS, MAX_MOVES}
pub use Rattle.fleet_model.specs.declared.program.Action.{Action}
pub use Rattle.fleet_model.specs.declared.standing.Standing.{Standing}
pub use Rattle.fleet_text.proofs.SinkLemmas.{stops_within_more, takes_err, takes_err_then, stops_after, stops_before, takes_then, stops_past, takes_more, takes_rest, appends_same, passed_element, stops_within_element}
pub use Rattle.fleet_text.proofs.WrittenLaws.{each_spaced, From, decimal_from, from_join, from_less, line_more, line_written, lines_written, spaced_more}
pub use Rattle.fleet_text.specs.Row.{PassesOn}
pub use Rattle.fleet_text.specs.Sink.{Takes, SinkState, TakesAll, HasFailed, StopsWithin, IsWorking}
pub use Rattle.fleet_text.specs.Text.{Bytes, is_dash, is_space, plain_number}
unfoldable pub use Rattle.fleet_text.specs.Text.{lines}
pub use Rattle.fleet_text.specs.Words.{place_text, next_words, ended_text, numbered_text, tens_text, with_spaces}
unfoldable pub use Rattle.fleet_text.specs.Words.{count_line}
pub use Rattle.fleet_run.specs.Drive.{Drives, IsInTime, IsDriven, trace_from}
pub use Rattle.fleet_run.specs.Fleet.{FleetState, IsShown}
pub use Rattle.fleet_run.specs.HoldText.{agents_of, holds_text, tick_line, tick_of, last_of, text_source, HoldLines, IsTickLine, fault_before, source_of, ticks_of}
pub use Rattle.fleet_run.specs.Line.{numeral, numeral_text, numerals_of, EndsWith, IsWrittenOver, AreClose, ArePlacesKept, HasNumber, HasNumerals, IsLineKept, IsResized, numerals_text, places_of, IsBeside, IsDigit, IsDigitOver, IsKeptBefore, IsNumeralAt, WritesOver, moved_before}
pub use Rattle.fleet_run.specs.Listing.{texts_below, await_text, action_line, agent_text, await_words, step_words}
unfoldable pub use Rattle.fleet_run.specs.Listing.{agent_line}
pub use Rattle.fleet_run.specs.Outcome.{run_end, RunsLines, AsksNext, IsAskedFor, RunsToEnd, AsksUnless, AsksUnlessOver, NeedsTicks, PassesTime, StopsAtSink, StopsAtSource}
pub use Rattle.fleet_run.specs.Source.{AreFlagsOf, SourceState, AsksTick, CanBeAsked, HasNotFailed, first_of, list_source, rest_of}
pub use Rattle.fleet_run.specs.Text.{line_of, lines_below, trace_closing, closing_lines, rehearsal_closing, last_line_of}
pub use Rattle.fleet_run.specs.TimesText.{label_line, agent_lines}
pub use Rattle.fleet_run.specs.declared.run.End.{End}
pub use Rattle.fleet_run.specs.declared.run.End.TheVariants.{Finished, Stuck}
pub use Rattle.fleet_run.specs.declared.run.Ran.{Ran}
pub use Rattle.fleet_run.specs.declared.run.RunFault.{RunFault}
pub use Rattle.fleet_run.specs.declared.run.RunFault.TheVariants.{Hold, HoldLimit, OutOfMemory, Source, Write}
pub use Rattle.fleet_run.specs.declared.run.Time.{Time}
pub use Rattle.fleet_run.specs.declared.source.SourceFault.{SourceFault}
pub use Rattle.fleet_run.specs.declared.source.SourceFault.TheVariants.{Broken, Text}
pub use Rattle.fleet_run.specs.declared.run.Report.{Report}
