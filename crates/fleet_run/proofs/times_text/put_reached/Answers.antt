use Rattle.fleet_run.proofs.Words.{rules, length, codes, count_line, takes_err, takes_then, stops_after, stops_within_more, agent_lines}
use Rattle.fleet_run.proofs.times_text.put_reached.Goals as goal

pub returns-in_err-put_count : goal.returns-in_err-put_count
returns-in_err-put_count g c =
    takes_err _ _ _ _ (search rules)
    (stops_after _ _ _ (agent_lines c.args.counts.now) _ c.in_ok-put_counts.ensures
    (stops_within_more _ _ (count_line (codes "agents") (length c.args.counts.now)) _ c.in_err-put_count.ensures))

pub returns-in_err-put_count-2 : goal.returns-in_err-put_count-2
returns-in_err-put_count-2 g c =
    takes_err _ _ _ _ (search rules)
    (stops_after _ _ _ (agent_lines c.args.counts.now) _ c.in_ok-put_counts.ensures
    (stops_after _ _ _ (count_line (codes "agents") (length c.args.counts.now)) _ c.in_ok-put_count.ensures
    (stops_within_more _ _ (count_line (codes "moves") c.args.moves) _ (rw c.from.ensures at c.in_err-put_count-2.ensures))))

pub returns : goal.returns
returns g c =
    takes_then _ _ _ _ (agent_lines c.args.counts.now) _ c.in_ok-put_counts.ensures
    (takes_then _ _ _ _ (count_line (codes "agents") (length c.args.counts.now)) _ c.in_ok-put_count.ensures
    (takes_then _ _ _ _ (count_line (codes "moves") c.args.moves) _ (rw c.from.ensures at c.in_ok-put_count-2.ensures)
    (rw c.from-2.ensures at c.put_count-3.ensures)))
