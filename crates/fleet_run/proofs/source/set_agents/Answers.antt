use Rattle.fleet_run.proofs.Words.{◌≡◌, ◌+◌, ◌++◌, ◌∷◌, [], List, ℕ, sym, arith, option_map, slice_split, AreFlagsOf, is_space, agents_of}
use Rattle.fleet_text.specs.declared.numbers.TheConstants.{TOO_LONG}
use Rattle.fleet_run.proofs.SourceLemmas.{flags_set, flags_past}
use Rattle.fleet_run.proofs.HoldLemmas.{word_inside, one_more}
use Rattle.fleet_run.proofs.source.set_agents.Goals as goal
use Rattle.fleet_run.proofs.source.set_agents.Goals.{then-has_flag, else-has_flag}

pub words-preserved : goal.words-preserved
words-preserved c =
    let before = c.words.invariant.so_far in
    let i = c.in-Some.agent in
    let cut = rw c.in-Some-after.is at c.cut.ensures.words in
    let part : agents_of c.args.agents c.words.least (slice_split is_space c.words.rest.now)
    ≡ option_map (λ (others : List ℕ). i ∷ others) (agents_of c.args.agents (i + 1) (slice_split is_space c.in-Some-after.after.now)) =
    rw cut (word_inside TOO_LONG c.args.agents c.words.least i c.cut.result.0.now (slice_split is_space c.in-Some-after.after.now) (omega arith) (sym c.in-Some.ensures) c.if-agent-least.false (omega (arith, c.if-agent-from.false, c.from.ensures))) in
    let flags : AreFlagsOf (before.0 ++ i ∷ []) c.if-has_flag.flags =
    elim c.if-has_flag.branch [
      | then-has_flag w ↦ rw w.flags-is (flags_set before.0 i c.words.flags w.if-has_flag.true before.1)
      | else-has_flag w ↦ rw w.flags-is (flags_past before.0 i c.words.flags w.if-has_flag.false before.1)
    ] in
    record {
      so_far = (before.0 ++ i ∷ [], flags, one_more _ before.0 _ before.2 i _ part);
      few = omega arith;
    }
