-- The words that proofs here cite of std, of programs and maps, and of the specs of this crate.
pub use Rattle.std.proofs.Common.{arith, ◌≡◌, ◌∙◌, ℕ, ap, sym, length, List, ◌+◌, ◌++◌, ◌∷◌, [], refl, ◌≤◌, subst, ◌<◌, take, ◌-◌, Ok, Some, suc, inl, inr, append_assoc, All, None, get_or, length-append, Err, true, zero, ◌*◌, ◌≢◌, Bool, IsTrue, Option, drop, false, Result, ltb, eqb, not, replicate, slice_index_or, ◌⊎◌, slice_get, ◌||◌, cond, ◌^◌, ◌↔◌, filter, leb, rules, map, min, vec_len, ◌%◌, ◌/◌, ◌==◌, IfErr, IfOk, add-zero, set, w8}
pub use Rattle.std.specs.Prelude.{nat_eq, option_map, sum_by, IfSome, is_none, position}
pub use Rattle.std.proofs.lemmas.Bool.{ne_eqb, cases_lt, eqb-false, eqb-true, le-ltb, ltb-false, cases_Bool, eq-eqb, lt-leb, or_from, or_parts, false≢true, leb-false, ltb-true, not-false, cases_eq, cases_order, false_from_ne_true, le-leb, leb-true, lt-ltb, not-true, or_cases, or_left, or_right}
pub use Rattle.std.proofs.lemmas.Bool.Decides.{Decides-eqb}
pub use Rattle.std.proofs.lemmas.Grind.{flat_map-append, replicate_next, same_number_lists}
pub use Rattle.std.proofs.lemmas.List.{append-nil, take_all, get_or_append_left, get_or_default, drop_at, get_or-drop, get_or-take, length-drop, length-take, take_at, drop-drop, drop_all, drop_more, flat_map_more, get_or_past, length-map, length-replicate, length-take-le, nil_from_length, take-append-drop, take_more, take_more_set, take_rest}
pub use Rattle.std.proofs.lemmas.List.Concat.{flat_map-cons}
pub use Rattle.std.proofs.lemmas.List.Elements.{All-cons, All-nil, All-head, All-tail, All-get_or, All-append, All-same, All-take, All-weaker, filter_more}
pub use Rattle.std.proofs.lemmas.List.FromFn.{length-range_with_len, get_or-map-range_with_len, get_or-range_with_len, length-map-range_with_len}
pub use Rattle.std.proofs.lemmas.List.Sums.{sum_by-cons, sum_by-append}
pub use Rattle.std.proofs.lemmas.Nat.{be_bytes_4, from_be_bytes-to_be_bytes_2, be_bytes_2, from_be_bytes-to_be_bytes_4}
pub use Rattle.std.proofs.lemmas.Option.{get_or_from_slice_get, none-some, same_Some, slice_get_within, slice_get_past, slice_get-get_or, slice_get_cases}
pub use Rattle.std.proofs.lemmas.Result.{err_from_is_err_and, on_ok_weaker}
pub use Rattle.std.proofs.lemmas.Slice.Eq.{starts_is}
pub use Rattle.std.specs.Int.{from_be_bytes, w16, w32, byte_at, to_be_bytes}
pub use Rattle.std.specs.List.{flat_map, range_with_len, starts_with, Any, cons_option, filter_map, position_from, position_or_len}
pub use Rattle.std.specs.Option.{option_map_or}
pub use Rattle.fleet_model.proofs.OnePass.{AwaitsFrom, AgentsFrom, IsNextAwait, any_begins, awaits_are, awaits_from, passes, is_well_formed, total_within}
pub use Rattle.fleet_model.proofs.Totals.{few_awaits_of}
pub use Rattle.fleet_model.specs.Geometry.{is_move}
pub use Rattle.fleet_model.specs.Program.{Program, awaits_of, AreAwaits, actions_of, total_moves, IsAgent, IsWellFormed, NeverStays, action_of, goal_of, start_of, step_of, awaits_before, AreMoves, AreShort, IsCell, IsShort, moves, origin, total_awaits}
pub use Rattle.fleet_model.specs.declared.geometry.Dir.TheVariants.{East, North, South, West}
pub use Rattle.fleet_model.specs.declared.geometry.Step.{Step}
pub use Rattle.fleet_model.specs.declared.geometry.Step.TheVariants.{Dwell, Go}
pub use Rattle.fleet_model.specs.declared.limits.TheConstants.{MAX_MOVES_IN_ALL, MAX_AGENTS, MAX_AWAIT, MAX_AWAIT_V1, MAX_MOVES}
pub use Rattle.fleet_model.specs.declared.program.Action.{Action}
pub use Rattle.fleet_model.specs.declared.program.AgentProgram.{AgentProgram}
pub use Rattle.fleet_model.specs.declared.program.Await.{Await}
pub use Rattle.fleet_text.proofs.StepLaws.{ok_is, bind_ok, err_is, passed, bind_err, ok_err, result_cases, test_err}
pub use Rattle.fleet_text.specs.Steps.{◌>>=◌, fault_if, ◌>>◌}
pub use Rattle.fleet_code.specs.Hex.{bytes_of, hex_digit, is_other, is_whitespace, pairs, with_byte}
pub use Rattle.fleet_code.specs.LoadFaults.{IsFirstFaultIn, ReachesAction, ReachesAgent, ReachesOpcode, HasHead, IsOffset, ReachesAwait, ReachesCount, ReachesOrder, BeginsWithCount, BeginsWithNumber, EndsWithin, IsFirstLoadFault, IsWithoutMagic}
pub use Rattle.fleet_code.specs.Offsets.{Viewed, StandsAt, await_len, opcodes, IsEvenFrom, offsets_of, AreOffsets, PartOffsets, begin_of, end_of, ends_of, head_len, with_ends, after_opcodes, part_at, part_of, parts_of, program_in, with_parts, IsViewOf, further, last_step}
pub use Rattle.fleet_code.specs.Reading.{step_at, Field, number_at, count_from, program_at, stay_in, step_or, long_number_at, version_in}
unfoldable pub use Rattle.fleet_code.specs.Reading.{actions_at, action_at, agents_at, await_at, agent_at, cell_from, magic_at, program_as}
pub use Rattle.fleet_code.specs.Spelling.{opcode, agent, cell, most_count, two_bytes, magic, IsSpellable, IsSpellableAgent, CanSpell, has_opcode, most_moves, spelling, AreSpellable, SpellsIn, count, count_len, Spells, SpellsNothing}
pub use Rattle.fleet_code.specs.Stays.{MovesAlways}
pub use Rattle.fleet_code.specs.declared.fault.LoadFault.{LoadFault}
pub use Rattle.fleet_code.specs.declared.fault.LoadFault.TheVariants.{Truncated, AgentCount, Total, Trailing, AwaitAgent, AwaitCount, AwaitOrder, OutOfMemory}
pub use Rattle.fleet_code.specs.declared.format.Version.{Version}
pub use Rattle.fleet_code.specs.declared.format.Version.TheVariants.{One, Two}
