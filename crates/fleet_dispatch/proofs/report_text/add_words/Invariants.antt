use Rattle.fleet_dispatch.proofs.Cited.{length, slice_split, MAX_AGENTS, is_space, words_of}
use Rattle.fleet_dispatch.proofs.Heard.{IsReadTo}
use Rattle.fleet_dispatch.proofs.report_text.add_words.Given as goal

abbrev pub invariant-words : goal.invariant-words
invariant-words l = IsReadTo l.form (words_of l.form 0 MAX_AGENTS (slice_split is_space l.line)) l.report (slice_split is_space l.rest)

abbrev pub decreases-words : goal.decreases-words
decreases-words l = length l.rest
