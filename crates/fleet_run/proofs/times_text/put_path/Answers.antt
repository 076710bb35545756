use Rattle.fleet_run.proofs.Words.{rules, [], map, codes, next_words, takes_err, stops_within_more, stops_before, stops_past, takes_rest}
use Rattle.fleet_verify.specs.RefusalWords.{action_text}
use Rattle.fleet_verify.specs.Stretch.{path_actions}
use Rattle.fleet_run.proofs.times_text.put_path.Goals as goal

pub returns-in_err-put_words : goal.returns-in_err-put_words
returns-in_err-put_words g c = takes_err _ _ _ _ (search rules) (stops_within_more _ _ (codes "path") _ (rw c.new-row.ensures at c.in_err-put_words.ensures))

pub returns-in_err-put_stretches : goal.returns-in_err-put_stretches
returns-in_err-put_stretches g c =
    takes_err _ _ _ _ (search rules)
    (stops_past _ _ _ [] _ (codes "path") _ (rw c.new-row.ensures at c.in_ok-put_words.ensures)
    (stops_before _ _ _ (next_words (map action_text (path_actions c.args.path.now))) _ c.in_err-put_stretches.ensures))

pub returns : goal.returns
returns g c =
    takes_rest _ _ _ _ [] _ (codes "path") _ (rw c.new-row.ensures at c.in_ok-put_words.ensures)
    (takes_rest _ _ _ _ _ _ (next_words (map action_text (path_actions c.args.path.now))) _ c.in_ok-put_stretches.ensures c.end_line.ensures)
