use Rattle.fleet_needs.proofs.Words.{◌≡◌, ◌<◌, ◌≤◌, ◌-◌, true, false, length, get_or, Some, None, ℕ, ◌≢◌}
use Rattle.fleet_needs.proofs.join_pass.Columns.choose.Given as goal

abbrev pub invariant-loop-of_agent : goal.invariant-loop-of_agent
invariant-loop-of_agent l = record {
  agents : length l.of_agent.items ≡ length l.asked;
  on : l.from ≤ l.end;
  first : l.end ≡ l.from → l.width ≡ 0;
  end : l.end ≤ length l.asked;
  few : l.width ≤ l.most;
  chosen : (j : ℕ) → l.from ≤ j → j < l.end → get_or l.asked j false ≡ true → get_or l.of_agent.items j None ≢ None;
  later : (j : ℕ) → l.end ≤ j → get_or l.of_agent.items j None ≡ None;
  within : (j k : ℕ) → get_or l.of_agent.items j None ≡ Some k → k < l.width;
  apart : (i j k : ℕ) → get_or l.of_agent.items i None ≡ Some k → get_or l.of_agent.items j None ≡ Some k → i ≡ j;
}

abbrev pub decreases-loop-of_agent : goal.decreases-loop-of_agent
decreases-loop-of_agent l = length l.asked - l.end
