use Rattle.fleet_search.proofs.Words.{◌≡◌, None, length, bucket_of, IsFrontierOf}
use Rattle.fleet_search.proofs.frontier.Frontier.expand_bucket.Given as goal

abbrev pub invariant-loop-place : goal.invariant-loop-place
invariant-loop-place l = IsFrontierOf l.query l.bucket None l.self × (length l.self.nodes ≡ length l.initial.self.nodes)

abbrev pub decreases-loop-place : goal.decreases-loop-place
decreases-loop-place l = length (bucket_of l.self.open_list l.bucket)
