-- Whether a whole path fits, step by step.
use Rattle.fleet_search.proofs.Words.{◌≡◌, ℕ, zero, suc, ◌+◌, ◌<◌, ◌≤◌, List, inl, inr, sym, ◌∙◌, arith, add-one, cases_lt, Cell, Plan, cell_at, Fits, StepFits, arrival, StandsOn, IsUnoccupied, IsFreeFrom}
use Rattle.fleet_search.proofs.Steps.{each_step, from_each_step}
use Rattle.fleet_search.proofs.Occupants.{cell_at-late}

-- each step before the time fits, and nobody stands on the first cell
pub record FitsUpTo (plan : Plan) (path : List Cell) (n : ℕ) : Type 0 where
  pub first : IsUnoccupied plan 0 (cell_at path 0)
  pub steps : (t : ℕ) → t < n → StepFits plan t (cell_at path t) (cell_at path (t + 1))

-- nobody stands where the path is
pub fits-free : (plan : Plan) (path : List Cell) → Fits plan path → (t : ℕ) → IsUnoccupied plan t (cell_at path t)
fits-free plan path fits zero = (each_step plan path fits).first
fits-free plan path fits (suc t) = rw (← add-one) (((each_step plan path fits).steps t).vertex)

-- nor on its last cell later
pub fits-rest : (plan : Plan) (path : List Cell) (n : ℕ) → arrival path ≤ n → Fits plan path → IsFreeFrom plan (cell_at path n) n
fits-rest plan path n b fits u h j p e = fits-free plan path fits u j p (e ∙ cell_at-late path n b ∙ sym (cell_at-late path u (omega arith)))

-- if the last cell stays free, each step after the arrival fits
late-step : (plan : Plan) (path : List Cell) (n : ℕ) → arrival path ≤ n → IsFreeFrom plan (cell_at path n) n → (t : ℕ) → n ≤ t → StepFits plan t (cell_at path t) (cell_at path (t + 1))
late-step plan path n b free t l =
    let here : cell_at path t ≡ cell_at path n = cell_at-late path t (omega arith) ∙ sym (cell_at-late path n b) in
    let next : cell_at path (t + 1) ≡ cell_at path n = cell_at-late path (t + 1) (omega arith) ∙ sym (cell_at-late path n b) in
    record {
      vertex = λ j p e. free (t + 1) (omega arith) j p (e ∙ next);
      ring = λ ne. absurd (ne (here ∙ sym next));
    }

pub up_to-all : (plan : Plan) (path : List Cell) (n : ℕ) → FitsUpTo plan path n → arrival path ≤ n → IsFreeFrom plan (cell_at path n) n → Fits plan path
up_to-all plan path n h b free =
    from_each_step plan path (record {
      first = h.first;
      steps = λ t. elim (cases_lt t n) [ inl l ↦ h.steps t l | inr l ↦ late-step plan path n b free t l ];
    })

pub misfit_first : (plan : Plan) (path : List Cell) (j : ℕ) → StandsOn plan 0 (cell_at path 0) j → Fits plan path → ⊥
misfit_first plan path j on fits = (each_step plan path fits).first j on.agent on.on

pub misfit_step : (plan : Plan) (path : List Cell) (t : ℕ) → (StepFits plan t (cell_at path t) (cell_at path (t + 1)) → ⊥) → Fits plan path → ⊥
misfit_step plan path t not fits = not ((each_step plan path fits).steps t)
