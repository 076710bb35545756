-- The line of a refusal if there is no plan.
use Rattle.std.specs.Prelude.{ℕ, Bool, true, false, List, codes}
use Rattle.fleet_text.specs.Refusals.{memory_words, named_at}
use Rattle.fleet_search.specs.declared.fault.PlanStop.{PlanStop}
use Rattle.fleet_search.specs.declared.fault.PlanStop.TheVariants as q

-- the words of the line of a search without a plan
abbrev pub search_words : PlanStop → List (List ℕ)
search_words q.OutOfMemory = memory_words
search_words (q.NoPath agent) = named_at (codes "search") 2 (codes "NoPath") (codes "agent") agent

-- whether memory failed
abbrev pub is_search_failure : PlanStop → Bool
is_search_failure q.OutOfMemory = true
is_search_failure _ = false
