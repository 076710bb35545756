use Rattle.fleet_plan.proofs.Words.{◌≡◌, ℕ, List, get_or, replicate, Option, None, rules, ap, ◌∙◌, arith, inl, inr, cases_lt, get_or-replicate, get_or_past, length-replicate}
use Rattle.fleet_plan.proofs.sweep.Sweep.new.Goals as goal

abbrev nobody : Option ℕ
nobody = None

-- a row that has nobody everywhere
nobody_at : (n k : ℕ) → get_or (replicate n nobody) k nobody ≡ nobody
nobody_at n k = elim (cases_lt k n) [
  | inl l ↦ get_or-replicate n k nobody nobody l
  | inr l ↦ get_or_past (replicate n nobody) k nobody (omega (arith, length-replicate n nobody))
]

pub returns : goal.returns
returns c = record {
  fits = record {
    places = omega (arith, c.in_ok-vec.ensures.len, c.from-agents.ensures, c.agents.ensures.count);
    next = omega (arith, c.in_ok-vec-2.ensures.len, c.from-agents.ensures, c.agents.ensures.count);
    ahead = omega (arith, c.in_ok-vec-3.ensures.len, c.from-agents.ensures, c.agents.ensures.count);
    walks = omega (arith, c.in_ok-vec-4.ensures.len, c.from-agents.ensures, c.agents.ensures.count);
  };
  nobody = λ i. ap (λ (xs : List (Option ℕ)). get_or xs i nobody) (c.in_ok-vec-3.ensures.items_if_clones_equal (λ y same. search rules)) ∙ nobody_at _ i;
  unwalked = λ i. ap (λ (xs : List (Option ℕ)). get_or xs i nobody) (c.in_ok-vec-4.ensures.items_if_clones_equal (λ y same. search rules)) ∙ nobody_at _ i;
  covers = c.in_ok-agents_of.ensures;
}
