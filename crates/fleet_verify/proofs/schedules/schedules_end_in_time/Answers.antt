use Rattle.fleet_verify.proofs.Words.{sym, ◌∙◌, subst, ◌≤◌}
use Rattle.fleet_verify.proofs.Timed.{at_end, no_sooner, needs_unended, critical, ends_in_time, soonest_is}
use Rattle.fleet_verify.proofs.schedules.schedules_end_in_time.Goals as goal

pub returns-clause-no_sooner : goal.returns-clause-no_sooner
returns-clause-no_sooner c p s is cost least b m u critical ended =
    subst (λ n. n ≤ u) (sym critical.some.3) (no_sooner p s is u cost least critical.some.0 critical.some.1 b critical.some.2 ended)

pub returns-clause-on_goal : goal.returns-clause-on_goal
returns-clause-on_goal c passable tasks p ok s is x i q h ended m = sym (at_end p s is x i q h ended m) ∙ ok.right.arrives i h

pub returns-clause-critical : goal.returns-clause-critical
returns-clause-critical c passable tasks p ok cost = critical p cost ok.right.in_range ok.numbering.0 ok.numbering.1

pub returns-clause-in_time : goal.returns-clause-in_time
returns-clause-in_time c passable tasks p ok s stalls cost in_time = ends_in_time p cost ok.right.in_range ok.numbering.0 ok.numbering.1 s stalls in_time

pub returns-clause-stopped : goal.returns-clause-stopped
returns-clause-stopped c p s is a b reaches apart never t begun = needs_unended p s is t a b reaches apart never begun

pub returns-clause-soonest : goal.returns-clause-soonest
returns-clause-soonest c passable tasks p ok cost = soonest_is p cost ok.right.in_range ok.numbering.0 ok.numbering.1
