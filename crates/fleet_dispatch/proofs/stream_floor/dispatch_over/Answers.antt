use Rattle.fleet_dispatch.proofs.Cited.{None, true, false, SinkState, IsSaid}
use Rattle.fleet_dispatch.proofs.Said.{after_more}
use Rattle.fleet_dispatch.proofs.stream_floor.dispatch_over.Goals as goal

-- what is known of a log that keeps nothing
no_log : SinkState
no_log = record { taken = None; has_failed = false; is_flushed = true }

pub returns : goal.returns
unfolding no_log
returns g c = after_more _ (IsSaid g.R.ReportsTo.talks c.args.input.now c.args.orders.now c.dispatch_logged.new.input c.dispatch_logged.new.orders c.args.pace.form) (λ talk said. (no_log, no_log, said)) _ _ _ c.dispatch_logged.ensures.outcome
