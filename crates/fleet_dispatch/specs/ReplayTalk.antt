-- Stretches of talk over a log, one after another.
use Rattle.std.specs.Prelude.{ℕ, List, [], ◌∷◌, ◌++◌}
use Rattle.std.proofs.Common.{subst}
use Rattle.fleet_dispatch.specs.declared.form.ReportForm.{ReportForm}
use Rattle.fleet_dispatch.specs.Talk.{Talk}
use Rattle.fleet_dispatch.specs.Replay.{ReplaysTurns}

-- the talk of one stretch and then of another is the talk of both
pub replays_more : (form : ReportForm) (a b c : List ℕ) (before after : Talk) → ReplaysTurns form a b before → ReplaysTurns form b c after → ReplaysTurns form a c (before ++ after)
replays_more form a b c [] after same then = subst (λ (x : List ℕ). ReplaysTurns form x c after) same then
replays_more form a b c (turn ∷ before) after first then = (first.0, first.1, replays_more form first.0 b c before after first.2 then)
