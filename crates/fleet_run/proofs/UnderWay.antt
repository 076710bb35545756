-- Runs that are under way, and what is written of them.
use Rattle.fleet_run.proofs.Words.{◌≡◌, ◌<◌, ◌≤◌, ◌*◌, take, subst, ℕ, zero, suc, ◌+◌, not, Bool, true, false, cond, None, List, [], ◌∷◌, get_or, drop, length, refl, ap, sym, ◌∙◌, add-one, inl, inr, ◌≢◌, arith, below_more, Result, Ok, Err, ◌++◌, Some, Option, length-append, cases_Bool, not-true, not-false, or_parts, length-drop, take-append-le, ext_get_or, MAX_AGENTS, MAX_MOVES, Program, IsWellFormed, Configuration, Holds, is_ready_held, is_over, is_among, is_held, tick, run, held_ticks, opening, standing_at, count_at, is_moving, next_action, finished_one, is_finished, is_stuck, IsFinish, IsReached, SourceState, HasNotFailed, AreFlagsOf, AsksTick, first_of, rest_of, SourceFault, Broken, Text, RunFault, OutOfMemory, Source, Hold, Write, HoldLimit, NeedsTicks, IsAskedFor, StopsAtSink, StopsAtSource, AsksNext, RunsLines, RunsToEnd, run_end, is_err, IfOk, IsOk, SinkState, StopsWithin, Takes, TakesAll, HasFailed, IsWorking, line_of, lines_below, trace_closing, flag_of, length-run, tick_agree, held_ticks-le, length-tick, standing_at_tick, Appends-trans, takes_more, Appends, Standing, Action, Arrives, End, Finished, Stuck, Report, Ran, Drives, IsDriven, IsInTime, trace_from}
use Rattle.fleet_run.specs.declared.run.TheConstants.{MAX_RUN_TICKS}
use Rattle.fleet_run.proofs.Progress.{ready_held_same, all_left, all_left_le, all_left_lt, all_left_few}
use Rattle.fleet_run.proofs.Rehearsed.{least_at, within_closing}

pub first_of-drop : (holds : Holds) (t : ℕ) → first_of (drop t holds) ≡ get_or holds t []
first_of-drop [] zero = refl
first_of-drop [] (suc t) = refl
first_of-drop (tick ∷ holds) zero = refl
first_of-drop (tick ∷ holds) (suc t) = first_of-drop holds t

pub rest_of-drop : (holds : Holds) (t : ℕ) → rest_of (drop t holds) ≡ drop (suc t) holds
rest_of-drop [] zero = refl
rest_of-drop [] (suc t) = refl
rest_of-drop (tick ∷ holds) zero = refl
rest_of-drop (tick ∷ holds) (suc t) = rest_of-drop holds t

length-rest_of : (left : Holds) → 0 < length left → length (rest_of left) < length left
length-rest_of [] h = absurd (omega arith)
length-rest_of (tick ∷ left) h = omega arith

pub needs_more : (p : Program) (holds : Holds) (c : Configuration) (t : ℕ) → c ≡ run p holds t → NeedsTicks is_over p holds t → is_over p c ≡ false → NeedsTicks is_over p holds (t + 1)
needs_more p holds c t here before goes_on = below_more (λ s. is_over p (run p holds s) ≡ false) t before (ap (is_over p) (sym here) ∙ goes_on)

pub rest_is : (holds left : Holds) (t : ℕ) → left ≡ drop t holds → rest_of left ≡ drop (t + 1) holds
rest_is holds left t e = ap rest_of e ∙ rw add-one (rest_of-drop holds t)

pub more_than : (holds left : Holds) (t : ℕ) → left ≡ drop t holds → 0 < length left → t < length holds
more_than holds left t e some = let long = rw e at some in omega (arith, length-drop t holds)

-- after this many ticks, in which the source s has become what it is now
pub record IsUnderWay (p : Program) (s now : SourceState) (c : Configuration) (ticks held : ℕ) (ended : Bool) : Type 0 where
  pub here : c ≡ run p s.ticks ticks
  pub needed : NeedsTicks is_over p s.ticks ticks
  pub held_is : held ≡ held_ticks p s.ticks ticks
  pub left_is : now.ticks ≡ drop ticks s.ticks
  pub nothing_left : ended ≡ true → now.ticks ≡ []
  pub past_end : ended ≡ true → length s.ticks < ticks
  pub nothing_came : ended ≡ true → s.last ≡ None
  pub not_past : ended ≡ false → ticks ≤ length s.ticks
  pub still_comes : ended ≡ false → now.last ≡ s.last
  pub while_asked : ended ≡ false → ticks ≤ MAX_RUN_TICKS
  pub afterwards : ended ≡ true → ticks + all_left p c ≤ MAX_RUN_TICKS + MAX_AGENTS * MAX_MOVES

module _ (p : Program) (s now : SourceState) (c : Configuration) (ticks held : ℕ) (ended : Bool) (before : IsUnderWay p s now c ticks held ended) where
  -- the numbers fit
  pub few_ticks : ticks ≤ MAX_RUN_TICKS + MAX_AGENTS * MAX_MOVES
  few_ticks =
      elim (cases_Bool ended) [
        | inl e ↦ omega (arith, before.afterwards e)
        | inr e ↦ omega (arith, before.while_asked e)
      ]

  pub few_held : held ≤ ticks
  few_held = omega (arith, before.held_is, held_ticks-le p s.ticks ticks)

  -- what the source was asked for
  pub asked_so_far : HasNotFailed now → IsAskedFor ticks s now
  asked_so_far working = record {
    left = before.left_is;
    kept = λ h.
        elim (cases_Bool ended) [
          | inl e ↦ absurd (omega (arith, before.past_end e))
          | inr e ↦ before.still_comes e
        ];
    ended = λ h.
        elim (cases_Bool ended) [
          | inl e ↦ before.nothing_came e
          | inr e ↦ absurd (omega (arith, before.not_past e))
        ];
    fault = working;
  }

  -- all that it had was asked for, where nothing is left and it has not ended
  pub all_asked : ended ≡ false → now.ticks ≡ [] → ticks ≡ length s.ticks
  all_asked e none =
      let past = ap length (sym before.left_is ∙ none) in
      omega (arith, before.not_past e, length-drop ticks s.ticks)

-- the next tick of a source, as flags, and what the source is after it
pub record IsNextTick (p : Program) (now : SourceState) (ended : Bool) (flags : List Bool) (more : Bool) (after : SourceState) : Type 0 where
  pub agents : length flags ≡ length p
  pub flags_are : AreFlagsOf (first_of now.ticks) flags
  pub rest : after.ticks ≡ rest_of now.ticks
  pub some_left : more ≡ true → 0 < length now.ticks
  pub none_left : more ≡ false → now.ticks ≡ []
  pub still : more ≡ true → after.last ≡ now.last
  pub nothing : more ≡ false → ended ≡ false → now.last ≡ None

-- after the source has ended no flag is set
pub unset_after : (p : Program) (now : SourceState) (ended : Bool) (flags : List Bool) (more : Bool) (after : SourceState) → IsNextTick p now ended flags more after → not more ≡ true → AreFlagsOf [] flags
unset_after p now ended flags more after next h = subst (λ (ticks : Holds). AreFlagsOf (first_of ticks) flags) (next.none_left (not-true more h)) next.flags_are

-- if nothing is left, nobody is held
nobody : (p : Program) (now : SourceState) (ended : Bool) (flags : List Bool) (more : Bool) (after : SourceState) → IsNextTick p now ended flags more after → now.ticks ≡ [] → (k : ℕ) → k < length p → flag_of flags k ≡ false
nobody p now ended flags more after next none k inside =
    next.flags_are k (omega (arith, next.agents)) ∙ ap (λ (ticks : Holds). is_among (first_of ticks) k) none

module _ (p : Program) (s now : SourceState) (c : Configuration) (ticks held : ℕ) (ended : Bool) (before : IsUnderWay p s now c ticks held ended)
    (flags : List Bool) (more : Bool) (after : SourceState) (next : IsNextTick p now ended flags more after) (goes_on : is_over p c ≡ false) where
  same_flags : (k : ℕ) → k < length p → flag_of flags k ≡ is_held s.ticks ticks k
  same_flags k inside =
      next.flags_are k (omega (arith, next.agents))
      ∙ ap (λ (tick : List ℕ). is_among tick k) (ap first_of before.left_is ∙ first_of-drop s.ticks ticks)

  after_tick : tick p (flag_of flags) c ≡ run p s.ticks (ticks + 1)
  after_tick = rw add-one (tick_agree p (flag_of flags) (is_held s.ticks ticks) c same_flags ∙ ap (tick p (is_held s.ticks ticks)) before.here)

  still_needed : NeedsTicks is_over p s.ticks (ticks + 1)
  still_needed = needs_more p s.ticks c ticks before.here before.needed goes_on

  held_after : held + cond (is_ready_held p (flag_of flags) c) 1 0 ≡ held_ticks p s.ticks (ticks + 1)
  held_after =
      let same = ready_held_same p (flag_of flags) (is_held s.ticks ticks) c same_flags ∙ ap (is_ready_held p (is_held s.ticks ticks)) before.here in
      rw (add-one, before.held_is, same) refl

  one_fewer : now.ticks ≡ [] → all_left p (tick p (flag_of flags) c) < all_left p c
  one_fewer none = all_left_lt p (flag_of flags) c goes_on (nobody p now ended flags more after next none)

  -- the holds and the actions that are left become fewer
  pub falls : length after.ticks + all_left p (tick p (flag_of flags) c) < length now.ticks + all_left p c
  falls =
      elim (cases_Bool more) [
        | inl e ↦
            let rest = ap length next.rest in
            let fewer = length-rest_of now.ticks (next.some_left e) in
            omega (arith, all_left_le p (flag_of flags) c)
        | inr e ↦
            let none = next.none_left e in
            let rest : length after.ticks ≡ 0 = ap length (next.rest ∙ ap rest_of none) in
            omega (arith, one_fewer none)
      ]

  -- what the source was asked for, where it gave one more tick
  pub asked_once_more : more ≡ true → HasNotFailed after → IsAskedFor (ticks + 1) s after
  asked_once_more gave working =
      let some = next.some_left gave in
      let within = more_than s.ticks now.ticks ticks before.left_is some in
      record {
        left = next.rest ∙ rest_is s.ticks now.ticks ticks before.left_is;
        kept = λ h.
            elim (cases_Bool ended) [
              | inl e ↦ let none = ap length (before.nothing_left e) in absurd (omega arith)
              | inr e ↦ next.still gave ∙ before.still_comes e
            ];
        ended = λ h. absurd (omega arith);
        fault = working;
      }

  pub one_tick_on : IsWellFormed p → (more ≡ true → ticks ≢ MAX_RUN_TICKS) → IsUnderWay p s after (tick p (flag_of flags) c) (ticks + 1) (held + cond (is_ready_held p (flag_of flags) c) 1 0) (not more)
  one_tick_on ok limit = record {
    here = after_tick;
    needed = still_needed;
    held_is = held_after;
    left_is = next.rest ∙ (ap rest_of before.left_is ∙ rw add-one (rest_of-drop s.ticks ticks));
    nothing_left = λ h. next.rest ∙ ap rest_of (next.none_left (not-true more h));
    past_end = λ h.
        let none = ap length (sym before.left_is ∙ next.none_left (not-true more h)) in
        omega (arith, length-drop ticks s.ticks);
    nothing_came = λ h.
        elim (cases_Bool ended) [
          | inl e ↦ before.nothing_came e
          | inr e ↦ sym (before.still_comes e) ∙ next.nothing (not-true more h) e
        ];
    not_past = λ h. omega (arith, more_than s.ticks now.ticks ticks before.left_is (next.some_left (not-false more h)));
    still_comes = λ h.
        let some = next.some_left (not-false more h) in
        elim (cases_Bool ended) [
          | inl e ↦ let none = ap length (before.nothing_left e) in absurd (omega arith)
          | inr e ↦ next.still (not-false more h) ∙ before.still_comes e
        ];
    while_asked = λ h.
        let asked = not-false more h in
        let some = next.some_left asked in
        let below = limit asked in
        elim (cases_Bool ended) [
          | inl e ↦ let none = ap length (before.nothing_left e) in absurd (omega arith)
          | inr e ↦ omega (arith, before.while_asked e)
        ];
    afterwards = λ h.
        let none = next.none_left (not-true more h) in
        let fewer = one_fewer none in
        elim (cases_Bool ended) [
          | inl e ↦ omega (arith, before.afterwards e)
          | inr e ↦ omega (arith, before.while_asked e, all_left_few p c ok)
        ];
  }

-- what the source was asked for
pub asked : (p : Program) (ended : Bool) (now after : SourceState) (more : Bool) (flags : List Bool)
    → AsksTick ended now after (Ok more) flags → length flags ≡ length p → IsNextTick p now ended flags more after × HasNotFailed after
asked p ended now after true flags h same = (
  record { agents = same; flags_are = h.2; rest = h.1; some_left = λ _. h.0; none_left = λ e. absurd (cc); still = λ _. h.4; nothing = λ e. absurd (cc) },
  h.3,
)
asked p ended now after false flags h same = (
  record { agents = same; flags_are = h.2; rest = h.1; some_left = λ e. absurd (cc); none_left = λ _. h.0; still = λ e. absurd (cc); nothing = λ _. h.4 },
  h.3,
)

-- the source has failed when it was asked for the next tick
source_stops : (p : Program) (s now after : SourceState) (o o' : SinkState) (c : Configuration) (t held : ℕ) (ended : Bool) (kind : SourceFault) (flags : List Bool)
    → IsUnderWay p s now c t held ended → is_over p c ≡ false → Takes o o' (lines_below p s.ticks (t + 1))
    → AsksTick ended now after (Err kind) flags → StopsAtSource is_over p s after o o' kind t
source_stops p s now after o o' c t held ended kind flags before goes took h = record {
  needed = needs_more p s.ticks c t before.here before.needed goes;
  all = all_asked p s now c t held ended before h.0 h.1;
  left = h.2;
  last = sym (before.still_comes h.0) ∙ h.3;
  kept = h.4 ∙ before.still_comes h.0;
  fault = h.5;
  taken = took.taken;
  working = took.working;
}

-- a run that stops when it asks for a tick, after the lines of all times so far
pub stops_asking : (p : Program) (s now after : SourceState) (o o' : SinkState) (c : Configuration) (t held : ℕ) (ended : Bool) (fault : RunFault) (flags : List Bool)
    → IsUnderWay p s now c t held ended → is_over p c ≡ false → Takes o o' (lines_below p s.ticks (t + 1)) → length flags ≡ length p
    → AsksNext ended now after t (Err fault) flags → RunsLines p s after o o' c (Err fault)
stops_asking p s now after o o' c t held ended OutOfMemory flags before goes took same h = h
stops_asking p s now after o o' c t held ended Write flags before goes took same h = absurd h
stops_asking p s now after o o' c t held ended (Source n) flags before goes took same h = (t, h.0, before.here, source_stops p s now after o o' c t held ended Broken flags before goes took h.1)
stops_asking p s now after o o' c t held ended (Hold n) flags before goes took same h = (t, h.0, before.here, source_stops p s now after o o' c t held ended Text flags before goes took h.1)
stops_asking p s now after o o' c t held ended HoldLimit flags before goes took same h =
    let next = asked p ended now after true flags h.1 same in (
      t,
      before.here,
      record {
        limit = h.0;
        needed = needs_more p s.ticks c t before.here before.needed goes;
        more = more_than s.ticks now.ticks t before.left_is (next.0.some_left refl);
        asked = asked_once_more p s now c t held ended before flags true after next.0 goes refl next.1;
        taken = took.taken;
        working = took.working;
      },
    )

-- a line that the sink took
pub took_all : {T E : Type 0} (o o' : SinkState) (r : Result T E) (bytes : List ℕ) → TakesAll o o' r bytes → is_err r ≡ false → Takes o o' bytes
took_all o o' (Ok x) bytes h e = h
took_all o o' (Err x) bytes h e = absurd (cc)

pub line_added : (p : Program) (holds : Holds) (t : ℕ) (c : Configuration) (before now after : SinkState) → c ≡ run p holds t
    → Takes before now (lines_below p holds t) → Takes now after (line_of t c) → Takes before after (lines_below p holds (t + 1))
line_added p holds t c before now after here lines line =
    let one : Takes now after (line_of t (run p holds t)) = subst (λ d. Takes now after (line_of t d)) here line in
    rw add-one (takes_more before now after (lines_below p holds t) (line_of t (run p holds t)) lines one)

-- The sink fails within a line.
pub stops_at_sink : (p : Program) (s now : SourceState) (c : Configuration) (t held : ℕ) (ended : Bool) (first mid last : SinkState)
    → IsUnderWay p s now c t held ended → HasNotFailed now → Takes first mid (lines_below p s.ticks t) → StopsWithin mid last (line_of t c)
    → (x : ℕ) × (c ≡ run p s.ticks x) × StopsAtSink is_over p s now first last (line_of x (run p s.ticks x)) x
stops_at_sink p s now c t held ended first mid last b f lines line =
    let line' : StopsWithin mid last (line_of t (run p s.ticks t)) = subst (λ d. StopsWithin mid last (line_of t d)) b.here line in (
      t,
      b.here,
      record {
        needed = b.needed;
        asked = asked_so_far p s now c t held ended b f;
        taken = (line'.taken.0, line'.taken.1, Appends-trans first.taken mid.taken last.taken (lines_below p s.ticks t) (take line'.taken.0 (line_of t (run p s.ticks t))) lines.taken line'.taken.2);
        failed = line'.failed;
      },
    )

-- what is not over is not finished
not_finished : (p : Program) (c : Configuration) → is_over p c ≡ false → is_finished p c ≡ false
not_finished p c h = (or_parts (is_finished p c) (is_stuck p c) h).0

pub needed_to_finish : (p : Program) (holds : Holds) (t : ℕ) → NeedsTicks is_over p holds t → NeedsTicks is_finished p holds t
needed_to_finish p holds t h = λ s l. not_finished p (run p holds s) (h s l)

pub stops_at_source_too : (p : Program) (s s' : SourceState) (o o' : SinkState) (kind : SourceFault) (t : ℕ) → StopsAtSource is_over p s s' o o' kind t → StopsAtSource is_finished p s s' o o' kind t
stops_at_source_too p s s' o o' kind t h = record { needed = needed_to_finish p s.ticks (t + 1) h.needed; all = h.all; left = h.left; last = h.last; kept = h.kept; fault = h.fault; taken = h.taken; working = h.working }

-- a fault while the lines are written
pub drives_so : (p : Program) (chain : ℕ) (s s' : SourceState) (o o' : SinkState) (c : Configuration) (fault : RunFault) → RunsLines p s s' o o' c (Err fault) → Drives p chain s s' o o' c (Err fault)
drives_so p chain s s' o o' c OutOfMemory h = h
drives_so p chain s s' o o' c (Source n) h = (h.0, h.1, h.2, stops_at_source_too p s s' o o' Broken h.0 h.3)
drives_so p chain s s' o o' c (Hold n) h = (h.0, h.1, h.2, stops_at_source_too p s s' o o' Text h.0 h.3)
drives_so p chain s s' o o' c Write h =
    let t = h.0 in
    let stop = h.2 in
    let line = line_of t (run p s.ticks t) in
    let closing = cond (is_finished p (run p s.ticks t)) (trace_closing (length p) t chain (held_ticks p s.ticks t)) [] in
    let k = stop.taken.0 in
    let inside = stop.taken.1 in
    let same : lines_below p s.ticks t ++ take k line ≡ lines_below p s.ticks t ++ take k (line ++ closing) = ap (λ xs. lines_below p s.ticks t ++ xs) (sym (take-append-le k line closing (omega arith))) in
    let Taken : List ℕ → Type 0 = λ bytes. Appends o.taken o'.taken bytes in (
      t,
      h.1,
      record {
        needed = needed_to_finish p s.ticks t stop.needed;
        asked = stop.asked;
        taken = (k, omega (arith, length-append line closing), subst Taken same stop.taken.2);
        failed = stop.failed;
      },
    )
drives_so p chain s s' o o' c HoldLimit h =
    let stop = h.2 in
    (h.0, h.1, record { limit = stop.limit; needed = needed_to_finish p s.ticks (h.0 + 1) stop.needed; more = stop.more; asked = stop.asked; taken = stop.taken; working = stop.working })

-- a run of an accepted program that has ended is finished
pub finished_at_end : (p : Program) (c : Configuration) (end : End) → is_stuck p c ≡ false → run_end p c ≡ Some end → is_finished p c ≡ true
finished_at_end p c end never e = cases (is_finished p c) (is_stuck p c) never e
  where
    cases : (finished stuck : Bool) → stuck ≡ false → cond finished (Some Finished) (cond stuck (Some Stuck) None) ≡ Some end → finished ≡ true
    cases true stuck n h = refl
    cases false true n h = absurd (cc)
    cases false false n h = absurd (cc)

trace_at_end : (p : Program) (chain : ℕ) (holds : Holds) (t : ℕ) → is_finished p (run p holds t) ≡ true
    → line_of t (run p holds t) ++ trace_closing (length p) t chain (held_ticks p holds t) ≡ trace_from p chain holds t
trace_at_end p chain holds t over = ap (λ b. line_of t (run p holds t) ++ cond b (trace_closing (length p) t chain (held_ticks p holds t)) []) (sym over)

-- the sink failed within the closing lines
pub stops_in_trace_closing : {T E : Type 0} (p : Program) (chain : ℕ) (holds : Holds) (t : ℕ) (before mid after : SinkState) (r : Result T E) (bytes : List ℕ)
    → is_finished p (run p holds t) ≡ true → Appends before.taken mid.taken (lines_below p holds (t + 1)) → TakesAll mid after r bytes → is_err r ≡ true
    → bytes ≡ trace_closing (length p) t chain (held_ticks p holds t)
    → ((k : ℕ) × (k < length (trace_from p chain holds t)) × Appends before.taken after.taken (lines_below p holds t ++ take k (trace_from p chain holds t))) × HasFailed after
stops_in_trace_closing p chain holds t before mid after (Ok x) bytes over lines took err e = absurd (cc)
stops_in_trace_closing p chain holds t before mid after (Err x) bytes over lines took err e =
    let first : Appends before.taken mid.taken (lines_below p holds t ++ line_of t (run p holds t)) = rw add-one at lines in
    let Within : List ℕ → Type 0 = λ text. (k : ℕ) × (k < length text) × Appends before.taken after.taken (lines_below p holds t ++ take k text) in
    let closing = trace_closing (length p) t chain (held_ticks p holds t) in
    (subst Within (trace_at_end p chain holds t over) (within_closing before.taken mid.taken after.taken (lines_below p holds t) (line_of t (run p holds t)) closing bytes e first took.taken), took.failed)

-- a run to its end, and the closing lines after it
pub driven : (p : Program) (chain : ℕ) (s s' : SourceState) (o mid o' : SinkState) (agents : ℕ) (r : Ran) → RunsToEnd p s s' o mid r
    → is_stuck p (run p s.ticks r.ticks) ≡ false → agents ≡ length p → Takes mid o' (trace_closing (length p) r.ticks chain (held_ticks p s.ticks r.ticks))
    → IsDriven p chain s s' o o' (record { agents = agents; ticks = r.ticks; chain = chain; held = r.held })
driven p chain s s' o mid o' agents r ran never same took = record {
  finish = least_at (λ t. is_finished p (run p s.ticks t)) r.ticks (finished_at_end p (run p s.ticks r.ticks) r.end never ran.end) (needed_to_finish p s.ticks r.ticks ran.needed);
  taken = Appends-trans o.taken mid.taken o'.taken (lines_below p s.ticks (r.ticks + 1)) (trace_closing (length p) r.ticks chain (held_ticks p s.ticks r.ticks)) ran.taken took.taken;
  working = took.working;
  asked = ran.asked;
  agents = same;
  the_chain = refl;
  held = ran.held;
}

-- a tick in which nobody's count has grown changes nothing
unmoved : (b : Bool) (s : Standing) (a : Option Action) (t : Standing) → t ≡ cond b (finished_one s a) s → t.count ≡ 0 → s.count ≡ 0 × (t ≡ s)
unmoved false s a t e none = (rw e at none, e)
unmoved true s None t e none = (rw e at none, e)
unmoved true s (Some a) t e none = let grown = rw e at none in absurd (omega arith)

-- a run in which nothing has been finished is at its start
run_at_opening : (p : Program) (holds : Holds) (t : ℕ) → ((i : ℕ) → i < length p → count_at (run p holds t) i ≡ 0) → run p holds t ≡ opening p
run_at_opening p holds zero none = refl
run_at_opening p holds (suc t) none =
    let held = is_held holds t in
    let before = run p holds t in
    let same = λ (i : ℕ) (h : i < length p). unmoved (is_moving p held before i) (standing_at before i) (next_action p before i) (standing_at (tick p held before) i) (standing_at_tick p held before i h) (none i h) in
    let start = run_at_opening p holds t (λ i h. (same i h).0) in
    let agents : length before ≡ length p = length-run p holds t in
    let nothing : tick p held before ≡ before =
    ext_get_or (standing_at [] 0) (tick p held before) before (length-tick p held before ∙ sym agents)
    (λ i h. (same i (omega (arith, length-tick p held before))).1) in
    nothing ∙ start

-- a fleet that has finished nothing is at its start
pub at_opening : (p : Program) (c : Configuration) → IsReached p c → ((i : ℕ) → i < length p → count_at c i ≡ 0) → c ≡ opening p
at_opening p c reached none =
    sym reached.same ∙ run_at_opening p reached.holds reached.ticks (λ i h. subst (λ d. count_at d i ≡ 0) (sym reached.same) (none i h))

-- the report of a run that arrives says so
pub told_in_time : (p : Program) (chain : ℕ) (s s' : SourceState) (o o' : SinkState) (c : Configuration) (r : Result Report RunFault)
    → ((f : ℕ) → IsFinish p s.ticks f → Arrives p s.ticks chain f) → Drives p chain s s' o o' c r → IfOk r IsInTime
told_in_time p chain s s' o o' c (Ok r) arrive h =
    let driven = h.1 in
    let arrived = arrive r.ticks driven.finish in
    let same = driven.the_chain in
    let held = driven.held in
    let low = arrived.no_sooner in
    let high = arrived.in_time in
    record { no_sooner = omega (arith, same, low); in_time = omega (arith, same, held, high) }
told_in_time p chain s s' o o' c (Err e) arrive h = tt

-- it reports unless the source or the sink has failed, or the source had more ticks than a run takes
pub told_unless_failed : (p : Program) (chain : ℕ) (s s' : SourceState) (o o' : SinkState) (c : Configuration) (r : Result Report RunFault)
    → Drives p chain s s' o o' c r → HasNotFailed s' → IsWorking o' → length s.ticks ≤ MAX_RUN_TICKS → IsOk r
told_unless_failed p chain s s' o o' c (Ok r) h calm working short = refl
told_unless_failed p chain s s' o o' c (Err OutOfMemory) h calm working short = absurd h
told_unless_failed p chain s s' o o' c (Err (Source n)) h calm working short = let failed = h.3.fault in absurd (cc)
told_unless_failed p chain s s' o o' c (Err (Hold n)) h calm working short = let failed = h.3.fault in absurd (cc)
told_unless_failed p chain s s' o o' c (Err Write) h calm working short = let failed = h.2.failed in absurd (cc)
told_unless_failed p chain s s' o o' c (Err HoldLimit) h calm working short = let limit = h.2.limit in let more = h.2.more in absurd (omega arith)
