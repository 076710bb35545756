-- Stretches of talk, one after another.
use Rattle.std.specs.Prelude.{ℕ, List, [], ◌∷◌, ◌++◌}
use Rattle.std.specs.Io.KnownBytes.{Appends}
use Rattle.fleet_text.specs.Sink.{SinkState, IsDelivered, HasFailed}
use Rattle.std.proofs.Common.{refl, subst}
use Rattle.fleet_dispatch.specs.declared.form.ReportForm.{ReportForm}
use Rattle.fleet_dispatch.specs.Talk.{Talk, Logged, Unlogged}
use Rattle.fleet_dispatch.specs.Stream.{Ends, TakesTurns}

-- from the ends as they are to themselves nothing is told or heard
pub takes_nothing : (form : ReportForm) (ends : Ends) → TakesTurns form ends ends []
takes_nothing form ends = refl

-- what the log took and handed on
pub takes_log : (form : ReportForm) (ends : Ends) (log : SinkState) (bytes : List ℕ) → IsDelivered ends.log log bytes → TakesTurns form ends (record ends { log = log }) (Logged bytes ∷ [])
takes_log form ends log bytes delivered = (record ends { log = log }, (delivered, refl, refl), refl)

-- .. and what it took that has failed then
pub takes_cut_log : (form : ReportForm) (ends : Ends) (log : SinkState) (bytes : List ℕ) → Appends ends.log.taken log.taken bytes → HasFailed log
    → TakesTurns form ends (record ends { log = log }) (Unlogged bytes ∷ [])
takes_cut_log form ends log bytes taken failed = (record ends { log = log }, (taken, failed, refl, refl), refl)

-- the talk of one stretch and then of another is the talk of both
pub takes_turns_more : (form : ReportForm) (a b c : Ends) (before after : Talk) → TakesTurns form a b before → TakesTurns form b c after → TakesTurns form a c (before ++ after)
takes_turns_more form a b c [] after same then = subst (λ (x : Ends). TakesTurns form x c after) same then
takes_turns_more form a b c (turn ∷ before) after first then = (first.0, first.1, takes_turns_more form first.0 b c before after first.2 then)
