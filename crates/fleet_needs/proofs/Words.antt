-- The words that proofs here cite: of std, of programs and chains, and of the specs of this crate.
pub use Rattle.std.proofs.Common.{◌≡◌, ◌≢◌, ℕ, ◌+◌, ◌-◌, ◌<◌, ◌≤◌, Bool, false, List, length, take, get_or, set, map, refl, sym, ap, subst, ◌∙◌, arith, inl, inr, ◌⊎◌, zero, suc, ◌*◌, [], ◌∷◌, ◌++◌, slice_index, slice_set, true, rules, ◌%◌, cond, ltb, max, w32, IsTrue, nat_eq, leb-true, le-leb, replicate, leb}
pub use Rattle.std.specs.Prelude.{slice_get, Some, sum_by, not, Contains, Option, is_some, unwrap_or, nat_le, None, nat_lt, All, Vec}
pub use Rattle.std.proofs.lemmas.{Bool.cases_eq, Bool.cases_order, Bool.cases_lt, Bool.false≢true, Bool.ltb-true, Bool.ltb-false, Bool.true≢false, Bool.lt-ltb, Bool.le-ltb, Bool.leb-false, Bool.not-false, Nat.mul-le, Option.slice_get_within, Option.get_or_from_slice_get, Option.same_Some, Option.slice_get-get_or, Option.none-some, List.get_or-map, List.length-map, List.get_or-set_same, List.get_or-set_other, List.get_or_append_left, List.get_or_push, List.length_push, List.length-set, List.get_or_read, List.get_or_past, List.get_or_default, List.take-take, List.take_all, List.take_more, List.get_or-replicate, List.length-replicate, List.Elements.All-push, List.Elements.All-set, List.Sums.sum_by-take-le, List.Sums.sum_by-cons, List.Sums.sum_by-set}
pub use Rattle.std.specs.Vec.{with_item, vec_len}
pub use Rattle.std.specs.declared.alloc.Global.{Global}
pub use Rattle.fleet_model.specs.declared.{program.ActionId.ActionId, program.Await.Await, program.Action.Action, program.AgentProgram.AgentProgram}
pub use Rattle.fleet_model.specs.{Program.Program, Program.actions_of, Program.awaits_of, Program.agent_awaits, Program.total_awaits, Program.AreInRange, Program.IsWellFormed, Program.moves, Program.total_moves, Program.AreAwaits, Program.awaits_before, Chain.IsAction, Chain.DirectlyNeeds, Chain.ChainFrom, Chain.IsCriticalCost, Chain.Reaches, Chain.awaited, Chain.IsNumbering, Chain.unit_cost}
pub use Rattle.fleet_model.proofs.{Totals.awaits_more, Totals.actions_more, Totals.moves_more, Totals.awaits_fit, Totals.few_awaits_of, Chains.but_last, Chains.need_action, Chains.ends_alone, Chains.ends_dearer, Chains.ends_within, Chains.own_reach, Chains.Reaches-first, Chains.Reaches-last, Chains.chain_ends_by_step, Chains.Reaches-rises, Chains.Reaches-trans, Chains.Reaches-need}
pub use Rattle.fleet_needs.specs.{Block.HasColumn, Block.IsAnswer, Columns.AreColumns, Columns.column_of, Counts.counts_of, Counts.count_from, Counts.from_place, Counts.made_row, Counts.are_narrow, Counts.CanHold, Counts.AreKept, Counts.AreWritten, JoinPass.AreOthers, JoinPass.AreWhole, JoinPass.IsMade, JoinPass.IsHalfMade, JoinPass.AreOfSame, JoinPass.IsNextBlock, Kernels.AreJoined, Rows.IsColumn, Rows.IsJoined, Rows.OfFirst, Rows.OfOthers, Rows.action_before, Rows.ByBeforeOr, Rows.ByOneOf, Rows.IsMost, Rows.OfOwn, Rows.OfThese, Schedule.AreCounts, Schedule.AreRowCounts, Schedule.AreInOrder, Schedule.AreRows, Schedule.IsJoinFor, Schedule.IsNeedFor, Schedule.TakesIn, Schedule.joins_of, Schedule.next_action, Schedule.joins_in, Schedule.IsSchedule, Schedule.AreColumnsOf, Schedule.AreRowsTo, Schedule.AreOfProgram, Schedule.StandsThere, Schedule.IsNextJoin, Schedule.IsNextNeed, Schedule.count_in_slot, Schedule.slot_of, Slots.AreSlotted, Slots.HasSlotNow, Slots.SlotTable, Slots.IsFree, Slots.IsHeld, Slots.owner_of, Slots.rows_in, Slots.slot_in, Slots.slots_in}
pub use Rattle.fleet_needs.specs.{CostWalk.after, CostWalk.CostsUpTo, CostWalk.IsGreatestTo, CostWalk.IsStage, CostWalk.IsRun, CostWalk.IsCostWalk, CostWalk.HasGoneOn, CostWalk.IsUnmet, CostWalk.IsOpen, Critical.Finished, Critical.IsNumberedTo, Critical.IsNotedCost, Critical.critical_cost, Critical.no_row, Critical.noted_in, Critical.row_in, Gather.raised, Gather.Gathering, Gather.gathering, Gather.AreAllColumns, Gather.AreAllAsked, Gather.AreGathered, Gather.IsNoted, Gather.IsPairAt, Gather.link_at, Gather.no_link, Gather.IsReached, Gather.AreFresh, Gather.IsBlockState, Gather.IsGathering, Gather.IsGatheringRow, Gather.IsOpenPiece, Pieces.IsOf, Pieces.IsToldBy, Pieces.IsTold, Pieces.AreTold, Pieces.key_of, Pieces.AreSorted, Pieces.IsLatest, Pieces.no_piece, Pieces.piece_at, Pieces.count_by}
pub use Rattle.fleet_needs.specs.{Flags.AreFlagsBut, Flags.IsLeftIn, Flags.AreFlaggedIn, Flags.AreFlaggedTo, Flags.AreImplied, Flags.AreSettled, Flags.AreSettledBy, Flags.AreSettledTo, Flags.IsUnsettled, Flags.flags_of, Implied.first_await, Implied.IsImplied, Implied.IsImpliedFlag, Implied.AreAwaitPlaces, Implied.AreSure, Implied.AreSet, Implied.IsLeftOut, Settled.ReachesNeed, Asked.IsQuestion, Asked.AreAnswersIn, Asked.IsAskedFor, Asked.IsFirstIn, Answering.AreAnsweredFrom, Answering.IsAnswering, Answering.IsByRow, Answering.IsToCome, Answering.listed_at, Answering.no_question, Answering.question_at, Answering.question_of, Answering.questions_in, Answering.unlisted}
pub use Rattle.fleet_needs.specs.{Places.row_first, Places.row_place, Joins.RowTable, Joins.AddsNone, Joins.AreQuiet, Joins.HasRowOr, Joins.HasRowUnlessSet, Joins.HasAllRows, Joins.action_at, Joins.no_action, Joins.IsRow, Joins.IsRowOrNone, Joins.StandsFor, Joins.IsUpToLast, Joins.AreOwn, Joins.AreRising, Joins.AreStanding, Joins.HasRoom, Joins.row_of, Joins.AreNoted, Joins.AreAllNoted, Joins.IsFilled, Joins.rows_of, Joins.base_of, Joins.end_of, Joins.needs_in, Joins.no_need, Joins.need_at, Joins.need_for, Joins.needs_of, Joins.AreListedTo, Joins.AreAllListed, Order.AreKeys, Joins.IsAwaiting, Order.IsKey, Order.IsListed, Order.IsPassed, Order.IsUpTo, Order.IsLevelOrder, Order.IsOrderOf, Order.IsOrderTo, Order.HasListed, Order.actions_in, Order.named_in, Order.keys_of, Keys.action_of_key, Keys.need_of_key, Keys.value_of_key}
pub use Rattle.fleet_needs.specs.declared.{join_pass.Columns.Columns, schedule.Schedule.Schedule, gather.Piece.Piece, gather.Link.Link, gather.TheConstants.AGENTS, gather.TheConstants.NUMBERS, critical.Stage.Stage, critical.TheConstants.MAX_COST, critical.TheConstants.MAX_LEVEL, join_pass.SlotRows.SlotRows, counts.Counts.Counts, implied.ImpliedAwaits.ImpliedAwaits, schedule.Join.Join, schedule.Need.Need, schedule.Joins.Joins, level_order.LevelOrder.LevelOrder, questions.Answering.Answering, questions.RowQuestion.RowQuestion, questions.Question.Question}
