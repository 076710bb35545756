use Rattle.fleet_verify.proofs.Words.{◌∙◌, ap, Some, arith, slice_get-get_or}
use Rattle.fleet_verify.proofs.Finish.{ring_never, ring_unnumbered}
use Rattle.fleet_verify.proofs.orders.rings_are_never_finished.Goals as goal

pub returns-clause-never : goal.returns-clause-never
returns-clause-never c = λ p ring holds t a r (k, l, e). ring_never p ring r holds t k a (slice_get-get_or ring k a l ∙ ap Some e)

pub returns-clause-not_numbered : goal.returns-clause-not_numbered
returns-clause-not_numbered c = λ p ring a number r (k, l, e) s. ring_unnumbered p ring r number s (number a) k a (slice_get-get_or ring k a l ∙ ap Some e) (omega arith)
