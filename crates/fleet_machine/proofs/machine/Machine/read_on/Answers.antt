use Rattle.std.proofs.Common.{◌+◌, ◌∙◌, length, sym, ap, arith, rules}
use Rattle.std.proofs.lemmas.Bool.{true≢false}
use Rattle.std.proofs.lemmas.Option.{slice_get_within}
use Rattle.fleet_model.specs.declared.standing.Standing.{Standing}
use Rattle.fleet_machine.specs.declared.steps.Mark.{Mark}
use Rattle.fleet_model.specs.Program.{awaits_of}
use Rattle.fleet_model.proofs.Totals.{few_awaits_of}
use Rattle.fleet_machine.proofs.Ready.{awaited_agent, one_more_met}
use Rattle.fleet_machine.proofs.Lacking.{unready, one_lacked, none_lacked, all_met}
use Rattle.fleet_machine.proofs.Waiting.{list_within}
use Rattle.fleet_machine.proofs.machine.Machine.read_on.Goals as goal

pub has_met-requires : goal.has_met-requires
has_met-requires g c =
    let p = g.P.ProgramView.program c.args.program.now in
    let there = awaited_agent p c.args.i (c.agent-finished.result.count + 1) c.awaits.met c.in-Await.awaited c.requires.next.well_formed c.in-Await.ensures in
    omega (arith, there, c.requires.agents)

pub overflow_add-met : goal.overflow_add-met
overflow_add-met g c =
    let p = g.P.ProgramView.program c.args.program.now in
    let few = few_awaits_of p c.args.i (c.agent-finished.result.count + 1) c.requires.next.agent c.requires.next.well_formed in
    omega (arith, few, c.awaits.invariant.few)

pub awaits-smaller : goal.awaits-smaller
awaits-smaller g c =
    let p = g.P.ProgramView.program c.args.program.now in
    let within = slice_get_within (awaits_of p c.args.i (c.agent-finished.result.count + 1)) c.awaits.met c.in-Await.awaited c.in-Await.ensures in
    omega (arith, within)

pub awaits-preserved : goal.awaits-preserved
awaits-preserved g c =
    let p = g.P.ProgramView.program c.args.program.now in
    let awaits = awaits_of p c.args.i (c.agent-finished.result.count + 1) in
    let within = slice_get_within awaits c.awaits.met c.in-Await.awaited c.in-Await.ensures in
    record {
      few = omega (arith, within);
      met = one_more_met c.args.self.now.configuration awaits c.awaits.met c.in-Await.awaited c.in-Await.ensures (sym c.has_met.ensures ∙ c.if-not-has_met.false) c.awaits.invariant.met;
    }

pub instruction-requires-clause-left : goal.instruction-requires-clause-left
instruction-requires-clause-left g c = omega (arith, ap (λ (s : Standing). s.count) c.agent-finished.ensures.standing, c.requires.next.left)

pub returns-then-not-has_met : goal.returns-then-not-has_met
returns-then-not-has_met g c =
    let p = g.P.ProgramView.program c.args.program.now in
    let rows = c.args.self.now.configuration in
    let ok = c.requires.next.well_formed in
    let finished = c.agent-finished in
    let count = ap (λ (s : Standing). s.count) finished.ensures.standing in
    let awaited = c.in-Await.awaited in
    let unmet = sym c.has_met.ensures ∙ c.if-not-has_met.true in
    let there = awaited_agent p c.args.i (finished.result.count + 1) c.awaits.met awaited ok c.in-Await.ensures in
    record {
      read = record {
        before = ap (λ (m : Mark). m.before) c.mark-mark.ensures ∙ c.requires.read.before;
        few = rw count at c.awaits.invariant.few;
        met = rw count at c.awaits.invariant.met;
      };
      all = λ ready. absurd (true≢false (sym ready ∙ unready p rows c.args.i c.requires.next.left finished.result finished.ensures.standing c.awaits.met awaited c.in-Await.ensures unmet));
      lacked = record { place = c.awaits.met; at = rw count at c.in-Await.ensures; unmet = unmet };
      kept = ap (λ (m : Mark). record m { met = c.awaits.met }) c.mark-mark.ensures;
      agent = omega (arith, there, ok.few_agents);
      list = list_within awaited (length p) there;
      ready = one_lacked p rows c.args.i c.requires.next.left finished.result finished.ensures.standing c.awaits.met awaited c.in-Await.ensures unmet;
    }

pub returns-in-Step : goal.returns-in-Step
returns-in-Step g c =
    let p = g.P.ProgramView.program c.args.program.now in
    let rows = c.args.self.now.configuration in
    let finished = c.agent-finished in
    let count = ap (λ (s : Standing). s.count) finished.ensures.standing in
    record {
      read = record {
        before = ap (λ (m : Mark). m.before) c.mark-mark.ensures ∙ c.requires.read.before;
        few = rw count at c.awaits.invariant.few;
        met = rw count at c.awaits.invariant.met;
      };
      all = λ ready. record { all = rw count at c.in-Step.ensures.0; step = rw count at c.in-Step.ensures.1 };
      lacked = none_lacked p rows c.args.i c.requires.next.left finished.result finished.ensures.standing c.awaits.met c.in-Step.ensures.0 c.awaits.invariant.met;
      kept = search rules;
      agent = search rules;
      list = search rules;
      ready = all_met p rows c.args.i c.requires.next.left finished.result finished.ensures.standing c.awaits.met c.in-Step.ensures.0 c.awaits.invariant.met;
    }
