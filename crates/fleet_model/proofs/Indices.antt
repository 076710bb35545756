-- The numbers of agents, from 0 on.
use Rattle.std.proofs.Common.{◌≡◌, ℕ, ◌+◌, [], ◌∷◌, ◌++◌, ap, sym, ◌∙◌, arith, map-id}
use Rattle.std.proofs.lemmas.List.FromFn.{map-range_with_len_more}
use Rattle.fleet_model.specs.Machine.{indices}

pub indices-more : (n : ℕ) → indices (n + 1) ≡ indices n ++ n ∷ []
indices-more n = sym (map-id _) ∙ map-range_with_len_more (λ x. x) 0 n n (omega arith) ∙ ap (λ xs. xs ++ n ∷ []) (map-id _)
