-- Writing paths one after the other.
use Rattle.fleet_plan.proofs.Words.{◌≡◌, ℕ, ◌+◌, [], ◌∷◌, ◌++◌, take, sym, ap, ◌∙◌, slice_get, Some, slice_get_within, get_or_from_slice_get, Bytes, line_more, Path, Plan, path_text, plan_text}

pub path_more : (front all : Bytes) (plan : Plan) (i : ℕ) (path : Path) → slice_get plan i ≡ Some path → front ≡ plan_text (take i plan) → all ≡ front ++ path_text path ++ 10 ∷ [] → all ≡ plan_text (take (i + 1) plan)
path_more front all plan i path is e f =
    line_more path_text front all plan i path (slice_get_within plan i path is) e (f ∙ ap (λ (p : Path). front ++ path_text p ++ 10 ∷ []) (sym (get_or_from_slice_get plan i path path is)))
