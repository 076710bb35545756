use Rattle.fleet_verify.proofs.Words.{◌≡◌, ◌-◌, ◌+◌, ◌<◌, ◌∙◌, ℕ, List, length, slice_index, refl, sym, ap, arith, inl, inr, slice_get_within, get_or_from_slice_get, awaited, awaits_of, few_awaits_of, slice_get, subst, IsLastAwait, level_in, count_in, climbed_in, last_level, awaited_agent}
use Rattle.fleet_verify.proofs.Waiting.{await_count, await_other}
use Rattle.fleet_verify.proofs.NextLevel.{least_begins, least_max, least_ends}
use Rattle.fleet_verify.proofs.Climbing.{own_row, own_count, other_row}
use Rattle.fleet_verify.proofs.ahead.needs_of.Goals as goal

pub instructions-init : goal.instructions-init
instructions-init g c =
    let p = g.P.ProgramView.program c.args.program.now in
    let next = c.requires.next in
    let rows = c.args.rows.now.items in
    let lt : c.args.agent < length rows = omega (arith, c.requires.rows, next.agent) in
    let count = own_count rows c.args.agent c.args.runner.finished lt next.begun in
    record {
      within = omega arith;
      least = least_begins p (climbed_in rows c.args.agent c.args.runner.finished) c.args.agent (c.args.runner.finished + 1) c.from-least.result (omega (arith, count))
          (c.from-least.ensures ∙ next.level ∙ ap last_level (sym (own_row rows c.args.agent c.args.runner.finished lt)));
      latest = inl c.no_await-latest.ensures.agent;
      last = inl (refl, λ i. record { agent = c.no_await-latest.ensures.agent i; count = c.no_await-latest.ensures.count i });
      at = next.at;
    }

pub greater_level-requires-clause-agent : goal.greater_level-requires-clause-agent
greater_level-requires-clause-agent g c =
    let p = g.P.ProgramView.program c.args.program.now in
    omega (arith, c.requires.rows, awaited_agent p c.args.agent (c.args.runner.finished + 1) c.instructions.k c.in-Await.awaited c.agents-agents.ensures.well_formed (rw c.in-Await.is at c.read-reading.ensures.instruction))

pub greater_level-requires-clause-count : goal.greater_level-requires-clause-count
greater_level-requires-clause-count g c =
    await_count (g.P.ProgramView.program c.args.program.now) c.agents-agents.ensures.well_formed c.args.agent (c.args.runner.finished + 1) c.instructions.k c.in-Await.awaited (rw c.in-Await.is at c.read-reading.ensures.instruction)

pub returns-in-None-clause-agent : goal.returns-in-None-clause-agent
returns-in-None-clause-agent g c = awaited_agent (g.P.ProgramView.program c.args.program.now) c.args.agent (c.args.runner.finished + 1) c.instructions.k c.in-Await.awaited c.agents-agents.ensures.well_formed (rw c.in-Await.is at c.read-reading.ensures.instruction)

pub returns-in-None-clause-waits : goal.returns-in-None-clause-waits
returns-in-None-clause-waits g c =
    let p = g.P.ProgramView.program c.args.program.now in
    let w = c.in-Await.awaited in
    let rows = c.args.rows.now.items in
    let i = c.args.agent in
    let n = c.args.runner.finished + 1 in
    let here = rw c.in-Await.is at c.read-reading.ensures.instruction in
    let same = other_row rows i c.args.runner.finished w.agent (await_other p c.agents-agents.ensures.well_formed i n c.instructions.k w here) in
    let long : count_in (climbed_in rows i c.args.runner.finished) w.agent ≡ count_in rows w.agent = ap (λ (row : List ℕ). length row) same in
    let few : count_in rows w.agent < w.count = c.in-None.ensures.none in
    inl ((c.instructions.k, slice_get_within (awaits_of p i n) c.instructions.k w here, get_or_from_slice_get (awaits_of p i n) c.instructions.k w w here), omega (arith, few, long))

pub returns-then-least-ge-MOST_LEVEL-clause-waits : goal.returns-then-least-ge-MOST_LEVEL-clause-waits
returns-then-least-ge-MOST_LEVEL-clause-waits g c =
    let p = g.P.ProgramView.program c.args.program.now in
    let rows = c.args.rows.now.items in
    let i = c.args.agent in
    let r = c.args.runner in
    let count = own_count rows i r.finished (omega (arith, c.requires.rows, c.requires.next.agent)) c.requires.next.begun in
    let said = rw c.in-Step.is at c.read-reading.ensures.instruction in
    let all : c.instructions.k ≡ length (awaits_of p i (r.finished + 1)) = said.0 in
    inr (
      c.instructions.least + 1,
      least_ends p (climbed_in rows i r.finished) i (r.finished + 1) c.instructions.k c.instructions.least c.instructions.invariant.least (omega (arith, count)) (omega (arith, all)) (c.instructions.least + 1) refl,
      omega (arith, c.if-least-ge-MOST_LEVEL.true),
    )

pub returns-in-Step-clause-says : goal.returns-in-Step-clause-says
returns-in-Step-clause-says g c =
    let p = g.P.ProgramView.program c.args.program.now in
    let next = c.requires.next in
    let rows = c.args.rows.now.items in
    let lt : c.args.agent < length rows = omega (arith, c.requires.rows, next.agent) in
    let count = own_count rows c.args.agent c.args.runner.finished lt next.begun in
    let said = rw c.in-Step.is at c.read-reading.ensures.instruction in
    let all : c.instructions.k ≡ length (awaits_of p c.args.agent (c.args.runner.finished + 1)) = said.0 in
    record {
      needs = record {
        level = least_ends p (climbed_in rows c.args.agent c.args.runner.finished) c.args.agent (c.args.runner.finished + 1) c.instructions.k c.instructions.least c.instructions.invariant.least (omega (arith, count)) (omega (arith, all)) _ (omega arith);
        latest = c.instructions.invariant.latest;
        step = said.1;
        after = rw c.in-Step.is at c.read-reading.ensures.after;
      };
      latest = subst (λ (k : ℕ). IsLastAwait p c.args.agent (c.args.runner.finished + 1) k c.instructions.latest) said.0 c.instructions.invariant.last;
    }

pub instructions-preserved : goal.instructions-preserved
instructions-preserved g c =
    let p = g.P.ProgramView.program c.args.program.now in
    let w = c.in-Await.awaited in
    let rows = c.args.rows.now.items in
    let i = c.args.agent in
    let n = c.args.runner.finished + 1 in
    let found = c.in-Some.ensures in
    let here = rw c.in-Await.is at c.read-reading.ensures.instruction in
    let within : c.instructions.k < length (awaits_of p i n) = slice_get_within (awaits_of p i n) c.instructions.k w here in
    let same = other_row rows i c.args.runner.finished w.agent (await_other p c.agents-agents.ensures.well_formed i n c.instructions.k w here) in
    let long : count_in (climbed_in rows i c.args.runner.finished) w.agent ≡ count_in rows w.agent = ap (λ (row : List ℕ). length row) same in
    let level : level_in rows (awaited w) ≡ level_in (climbed_in rows i c.args.runner.finished) (awaited w) = ap (λ (row : List ℕ). slice_index row (w.count - 1)) (sym same) in
    record {
      within = omega (arith, within);
      least = least_max p (climbed_in rows i c.args.runner.finished) i n c.instructions.k c.instructions.least c.instructions.invariant.least w here found.met.first (omega (arith, found.met.last, long)) (level_in rows (awaited w)) level c.in-Some.level found.greater;
      latest = inr (c.instructions.k, within, get_or_from_slice_get (awaits_of p i n) c.instructions.k w w here);
      last = let back : c.instructions.k + 1 - 1 ≡ c.instructions.k = omega arith in inr (ap (slice_get (awaits_of p i n)) back ∙ here);
      at = rw c.in-Await.is at c.read-reading.ensures.after;
    }

pub overflow_add-k : goal.overflow_add-k
overflow_add-k g c =
    let p = g.P.ProgramView.program c.args.program.now in
    let n = c.args.runner.finished + 1 in
    let here = rw c.in-Await.is at c.read-reading.ensures.instruction in
    omega (arith, few_awaits_of p c.args.agent n c.requires.next.agent c.agents-agents.ensures.well_formed, slice_get_within (awaits_of p c.args.agent n) c.instructions.k c.in-Await.awaited here)
