use Rattle.std.proofs.Common.{◌≡◌, ◌<◌, ℕ, length, sym, ap, subst, ◌∙◌}
use Rattle.std.proofs.lemmas.{List.length-map, List.FromFn.length-range_with_len}
use Rattle.std.specs.Prelude.{IfSome}
use Rattle.fleet_model.specs.Machine.{indices}
use Rattle.fleet_scen.specs.ScenWriting.{scen_text}
use Rattle.fleet_dispatch.specs.declared.dead_robot.DeadRobot.{DeadRobot}
use Rattle.fleet_adg.specs.Remaining.{task_of, tasks_of}
use Rattle.fleet_cli.proofs.write_commands.texts_left.Goals as goal

pub others_around-requires : goal.others_around-requires
others_around-requires c =
    let q = c.args.program.now in
    let long : length c.in_ok-tasks.tasks.items ≡ length q = ap length c.in_ok-tasks.ensures ∙ (length-map (indices (length q)) (task_of q) ∙ length-range_with_len 0 (length q)) in
    subst (λ (n : ℕ). IfSome c.args.dead (λ (d : DeadRobot). d.agent < n)) (sym long) c.requires.dead

pub returns : goal.returns
returns c =
    let g = c.args.grid.now in
    let q = c.args.program.now in
    let instance = c.accepted_tasks_are_an_instance.ensures.instance g (tasks_of q) q c.agents-agents.ensures.well_formed c.requires.accepted in
    let ends = c.accepted_tasks_are_an_instance.ensures.ends g (tasks_of q) q c.requires.accepted in
    let wide = ap (λ w. scen_text w c.height-height.result c.deref.result.now) c.width-width.ensures.value in
    let high = ap (λ h. scen_text g.width h c.deref.result.now) c.height-height.ensures.value in
    let written : c.in_ok-scen.scen.items ≡ scen_text g.width g.height (tasks_of q) = c.in_ok-scen.ensures ∙ wide ∙ high ∙ ap (scen_text g.width g.height) (c.deref.ensures.value ∙ c.in_ok-tasks.ensures) in
    record {
      written = written;
      stands = rw written (c.a_written_scenario_is_read.ensures g (tasks_of q) c.width-width.ensures.sizes instance ends);
      spelled = c.in_ok-bytes.ensures.shortest;
      around = c.in_ok-map.ensures;
      rest_of_them = rw c.in_ok-tasks.ensures at c.in_ok-others.ensures;
    }
