use Rattle.std.proofs.Common.{rules, ℕ, ◌*◌, ◌≡◌, ◌∙◌, List, length, replicate, true, false, None, ap, sym, arith}
use Rattle.std.proofs.lemmas.List.{length-replicate}
use Rattle.fleet_machine.specs.WaitLists.{WaitState, home_of}
use Rattle.fleet_model.specs.declared.standing.Standing.{Standing}
use Rattle.fleet_model.specs.Machine.{Configuration, count_at}
use Rattle.fleet_machine.specs.declared.steps.Mark.{Mark}
use Rattle.fleet_machine.specs.Machine.{MachineState, mark_of, flag_of}
use Rattle.fleet_machine.proofs.Marks.{mark_of_nobody, read_nothing, all_flags}
use Rattle.fleet_machine.proofs.Opened.{home_of_nobody}
use Rattle.fleet_model.proofs.Tick.{length_opening, standing_at_opening}
use Rattle.fleet_machine.proofs.machine.Machine.start.Goals as goal

pub with_agents-machine-requires-clause-few : goal.with_agents-machine-requires-clause-few
with_agents-machine-requires-clause-few g c = omega (arith, c.agents-count.ensures.count, c.agents-count.ensures.well_formed.few_agents)

pub judge_supposed-requires-clause-can : goal.judge_supposed-requires-clause-can
judge_supposed-requires-clause-can g c =
    let p = g.P.ProgramView.program c.args.program.now in
    let made = c.with_agents-machine.ensures in
    let count = c.agents-count.ensures.count in
    let all : length (replicate c.agents-count.result true) ≡ length p = length-replicate c.agents-count.result true ∙ count in
    record {
      well_formed = c.agents-count.ensures.well_formed;
      agents = ap (λ (m : MachineState). length m.configuration) made ∙ (ap length c.in_ok-agents.ensures.opening ∙ length_opening p);
      rows = record {
        marks = ap (λ (m : MachineState). length m.marks) made
            ∙ (ap length (c.in_ok-marks.ensures.items_if_clones_equal (λ y k. search rules)) ∙ (length-replicate c.agents-count.result _ ∙ count));
        ready = ap (λ (m : MachineState). length m.ready) made ∙ all;
        left = ap (λ (m : MachineState). length m.left) made ∙ all;
        due = ap (λ (m : MachineState). length m.due) made ∙ all;
        lists = ap (λ (m : MachineState). m.waiting.lists) made ∙ (ap (λ (w : WaitState). w.lists) c.in_ok-waiting.ensures ∙ ap (λ (n : ℕ). n * 8) count);
        homes = ap (λ (m : MachineState). length m.waiting.homes) made
            ∙ (ap (λ (w : WaitState). length w.homes) c.in_ok-waiting.ensures ∙ (length-replicate c.agents-count.result None ∙ count));
        least = ap (λ (m : MachineState). length m.least) made
            ∙ (ap length (c.in_ok-least.ensures.items_if_clones_equal (λ y k. search rules)) ∙ (length-replicate (c.agents-count.result * 8) 4294967295 ∙ ap (λ (n : ℕ). n * 8) count));
      };
      read = λ i agent.
          (let mark = ap (λ (m : MachineState). mark_of m.marks i) made
          ∙ (ap (λ (marks : List Mark). mark_of marks i) (c.in_ok-marks.ensures.items_if_clones_equal (λ y k. search rules))
          ∙ (ap (λ (mark : Mark). mark_of (replicate c.agents-count.result mark) i) c.unread.ensures ∙ mark_of_nobody c.agents-count.result i)) in
          let count = ap (λ (m : MachineState). count_at m.configuration i) made
          ∙ (ap (λ (rows : Configuration). count_at rows i) c.in_ok-agents.ensures.opening ∙ ap (λ (s : Standing). s.count) (standing_at_opening p i)) in
          read_nothing p c.with_agents-machine.result.configuration i (mark_of c.with_agents-machine.result.marks i) mark count);
      flagged = λ i agent is. ap (λ (m : MachineState). flag_of m.left i) made ∙ all_flags c.agents-count.result i (omega (arith, count));
      nowhere = λ i is. ap (λ (m : MachineState). home_of m.waiting.homes i) made ∙ (ap (λ (w : WaitState). home_of w.homes i) c.in_ok-waiting.ensures ∙ home_of_nobody c.agents-count.result i);
    }

pub judge_supposed-requires-clause-ready : goal.judge_supposed-requires-clause-ready
judge_supposed-requires-clause-ready g c =
    λ i is.
    let made = c.with_agents-machine.ensures in
    ap (λ (m : MachineState). flag_of m.ready i) made ∙ (sym (ap (λ (m : MachineState). flag_of m.due i) made) ∙ is)

pub returns-clause-runs : goal.returns-clause-runs
returns-clause-runs g c =
    let p = g.P.ProgramView.program c.args.program.now in
    let made = c.with_agents-machine.ensures in
    let count = c.agents-count.ensures.count in
    let judged = c.judge_supposed.ensures in
    record {
      well_formed = c.agents-count.ensures.well_formed;
      agents = ap (λ (m : MachineState). length m.configuration) judged.same ∙ (ap (λ (m : MachineState). length m.configuration) made ∙ (ap length c.in_ok-agents.ensures.opening ∙ length_opening p));
      flags = ap (λ (m : MachineState). length m.moving) judged.same ∙ (ap (λ (m : MachineState). length m.moving) made ∙ (length-replicate c.agents-count.result false ∙ count));
      rows = judged.rows;
      judged = λ i agent. judged.judged i agent (ap (λ (m : MachineState). flag_of m.due i) made ∙ all_flags c.agents-count.result i (omega (arith, count)));
    }

pub returns-clause-opening : goal.returns-clause-opening
returns-clause-opening g c =
    ap (λ (m : MachineState). m.configuration) c.judge_supposed.ensures.same ∙ (ap (λ (m : MachineState). m.configuration) c.with_agents-machine.ensures ∙ c.in_ok-agents.ensures.opening)

pub returns-clause-looked : goal.returns-clause-looked
returns-clause-looked g c = ap (λ (m : MachineState). m.looked) c.judge_supposed.ensures.same ∙ ap (λ (m : MachineState). m.looked) c.with_agents-machine.ensures
