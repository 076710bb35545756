use Rattle.fleet_verify.proofs.Words.{ℕ, List, length, slice_index, ap, ◌∙◌, length-replicate}
use Rattle.fleet_needs.proofs.Counting.{none_at}
use Rattle.fleet_verify.proofs.needed.zeros.Goals as goal

pub returns : goal.returns
returns c =
    let made = c.in_ok-vec.ensures.items_if_clones_equal (λ y same. same) in
    record { all = ap length made ∙ (length-replicate c.from.result 0 ∙ c.from.ensures); zero = λ j. ap (λ (xs : List ℕ). slice_index xs j) made ∙ none_at c.from.result j }
