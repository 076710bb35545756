-- A run at one time: what it wrote, and what it asked for, and the run so far.
use Rattle.fleet_run.proofs.Words.{◌≡◌, ◌∙◌, ◌<◌, ◌+◌, not, cond, ℕ, Bool, None, Some, Option, Ok, Err, List, length, refl, sym, ap, subst, Result, Program, IsWellFormed, Configuration, is_ready_held, tick, flag_of, End, RunFault, OutOfMemory, Source, Hold, Write, HoldLimit, Time, SourceState, CanBeAsked, line_of, lines_below, AsksNext, AsksUnless, AsksUnlessOver, IsAskedFor, PassesTime, RunsLines, run_end, SinkState, Takes}
use Rattle.fleet_run.proofs.Ending.{not_over}
use Rattle.fleet_run.proofs.Progress.{all_left}
use Rattle.fleet_run.proofs.UnderWay.{IsUnderWay, asked, asked_so_far, falls, line_added, one_tick_on, stops_asking, stops_at_sink, unset_after}

-- no answer of asking is that the sink failed, or want of memory
asks_so : (end : Option End) (ended : Bool) (s s' : SourceState) (t : ℕ) (e : RunFault) (flags : List Bool) → AsksUnless end ended s s' t (Err e) flags
    → (end ≡ None) × AsksNext ended s s' t (Err e) flags
asks_so None ended s s' t e flags h = (refl, h)
asks_so (Some x) ended s s' t e flags h = absurd (cc (h.0))

-- a time whose line was written, and that then asked
pub asks_after : (time : Time) (s s' : SourceState) (o o' : SinkState) (line : List ℕ) (r : Result Bool RunFault) (flags : List Bool)
    → Takes o o' line → AsksUnlessOver time s s' r flags → PassesTime time s s' o o' line r flags
asks_after time s s' o o' line (Ok more) flags took h = (took, h)
asks_after time s s' o o' line (Err OutOfMemory) flags took h = (asks_so time.end time.source_ended s s' time.ticks OutOfMemory flags h).1
asks_after time s s' o o' line (Err (Source n)) flags took h = (took, h)
asks_after time s s' o o' line (Err (Hold n)) flags took h = (took, h)
asks_after time s s' o o' line (Err Write) flags took h = absurd ((asks_so time.end time.source_ended s s' time.ticks Write flags h).1)
asks_after time s s' o o' line (Err HoldLimit) flags took h = (took, h)

-- a run so far: where it is, what it can ask, and what it wrote
pub record IsSoFar (p : Program) (s now : SourceState) (first mid : SinkState) (c : Configuration) (ticks held : ℕ) (ended : Bool) (flags : List Bool) : Type 0 where
  pub under_way : IsUnderWay p s now c ticks held ended
  pub can : CanBeAsked ended now flags
  pub agents : length flags ≡ length p
  pub written : Takes first mid (lines_below p s.ticks ticks)

module _ {p : Program} {s now : SourceState} {c : Configuration} {held : ℕ} {first mid : SinkState} {unset : List Bool} (time : Time) (after : SourceState) (last : SinkState) (flags : List Bool)
    (before : IsSoFar p s now first mid c time.ticks held time.source_ended unset) (same : length flags ≡ length unset) (end_is : time.end ≡ run_end p c) where
  agents : length flags ≡ length p
  agents = same ∙ before.agents

  with_line : Takes mid last (line_of time.ticks c) → Takes first last (lines_below p s.ticks (time.ticks + 1))
  with_line took = line_added p s.ticks time.ticks c first mid last before.under_way.here before.written took

  stops_there : (e : RunFault) → Takes mid last (line_of time.ticks c) → AsksUnlessOver time now after (Err e) flags → RunsLines p s after first last c (Err e)
  stops_there e took h =
      let asks = asks_so time.end time.source_ended now after time.ticks e flags h in
      let goes = not_over p c (sym asks.0 ∙ end_is) in
      stops_asking p s now after first last c time.ticks held time.source_ended e flags before.under_way goes (with_line took) agents asks.1

  -- the run stops at this time
  pub stops_in_time : (e : RunFault) → PassesTime time now after mid last (line_of time.ticks c) (Err e) flags → RunsLines p s after first last c (Err e)
  stops_in_time OutOfMemory h = h
  stops_in_time (Source n) h = stops_there (Source n) h.0 h.1
  stops_in_time (Hold n) h = stops_there (Hold n) h.0 h.1
  stops_in_time Write h =
      let stop = stops_at_sink p s now c time.ticks held time.source_ended first mid last before.under_way before.can.working before.written h.0 in
      subst (λ source. RunsLines p s source first last c (Err Write)) (sym h.1) stop
  stops_in_time HoldLimit h = stops_there HoldLimit h.0 h.1

  -- the run ends at this time
  pub ends_in_time : (more : Bool) (end : End) → time.end ≡ Some end → PassesTime time now after mid last (line_of time.ticks c) (Ok more) flags
      → RunsLines p s after first last c (Ok (record { ticks = time.ticks; held = held; end = end }))
  ends_in_time more end is h =
      let over : AsksUnless (Some end) time.source_ended now after time.ticks (Ok more) flags =
      subst (λ e. AsksUnless e time.source_ended now after time.ticks (Ok more) flags) is h.1 in
      let took = with_line h.0 in (
        before.under_way.here,
        record {
          needed = before.under_way.needed;
          end = ap (run_end p) (sym before.under_way.here) ∙ sym end_is ∙ is;
          held = before.under_way.held_is;
          asked = subst (IsAskedFor time.ticks s) (sym over.1) (asked_so_far p s now c time.ticks held time.source_ended before.under_way before.can.working);
          taken = took.taken;
          working = took.working;
        },
      )

  -- the run goes on after this time, and one tick later the holds and the actions that are left have become fewer
  pub goes_on_in_time : (more : Bool) → time.end ≡ None → IsWellFormed p → PassesTime time now after mid last (line_of time.ticks c) (Ok more) flags
      → IsSoFar p s after first last (tick p (flag_of flags) c) (time.ticks + 1) (held + cond (is_ready_held p (flag_of flags) c) 1 0) (not more) flags
      × (length after.ticks + all_left p (tick p (flag_of flags) c) < length now.ticks + all_left p c)
  goes_on_in_time more is ok h =
      let asks : AsksNext time.source_ended now after time.ticks (Ok more) flags =
      subst (λ e. AsksUnless e time.source_ended now after time.ticks (Ok more) flags) is h.1 in
      let next = asked p time.source_ended now after more flags asks.0 agents in
      let goes = not_over p c (sym is ∙ end_is) in
      let on = one_tick_on p s now c time.ticks held time.source_ended before.under_way flags more after next.0 goes ok asks.1 in (
        record {
          under_way = on;
          can = record { working = next.1; nothing_left = on.nothing_left; unset = unset_after p now time.source_ended flags more after next.0 };
          agents = agents;
          written = with_line h.0;
        },
        falls p s now c time.ticks held time.source_ended before.under_way flags more after next.0 goes,
      )
