use Rattle.std.proofs.Common.{◌∙◌, None, false, List, ℕ, ap, rules}
use Rattle.fleet_dispatch.specs.Talk.{IsLogged}
use Rattle.fleet_dispatch.proofs.Said.{dispatches_more}
use Rattle.fleet_cli.specs.{Files.bytes_of, DispatchCommand.IsKeptAfter, DispatchCommand.log_state}
use Rattle.fleet_cli.proofs.DispatchLemmas.{kept}
use Rattle.fleet_cli.proofs.dispatch_command.dispatch_kept.Goals as goal

pub returns-in-None-clause-outcome : goal.returns-in-None-clause-outcome
returns-in-None-clause-outcome g c =
    let talks = IsLogged g.R.ReportsTo.talks c.args.input.now c.args.out.now c.dispatch_led.new.input c.dispatch_led.new.orders in
    let is_kept = IsKeptAfter None (g.F.Files.contents c.args.files.now) None talks _ in
    rw c.in-None.is (dispatches_more _ is_kept (λ talk said. (false, said)) _ _ _ (rw c.pace_of-pace.ensures at c.dispatch_led.ensures.outcome))

pub returns-in-Some-clause-outcome : goal.returns-in-Some-clause-outcome
returns-in-Some-clause-outcome g c =
    let led = c.dispatch_led-in-Some in
    let k = led.new.log in
    let talks = IsLogged g.R.ReportsTo.talks c.args.input.now c.args.out.now led.new.input led.new.orders in
    let named = ap (λ (n : List ℕ). log_state (bytes_of (g.F.Files.contents k.files.now) n) k.failed) led.ensures.stays.1 in
    let ended = named ∙ ap (λ files. log_state (bytes_of (g.F.Files.contents files) c.in-Some.name.now) k.failed) (search rules) in
    rw c.in-Some.is (kept _ _ talks _ _ _ _ c.in-Some.name _ k.failed ended (rw c.pace_of-pace.ensures at led.ensures.outcome))
