use Rattle.fleet_grid.specs.Ground.{is_passable}
use Rattle.fleet_adg.proofs.Staying.{due-plain, moves-plain, short-plain, runs-plain}
use Rattle.fleet_adg.proofs.compiler.compile.Goals as goal

pub returns-clause-program : goal.returns-clause-program
returns-clause-program c = due-plain c.args.checked.now.plan c.args.deps c.compile_dwell.result c.plan-plan.ensures.checked.limits c.compile_dwell.ensures.program

pub returns-clause-moves : goal.returns-clause-moves
returns-clause-moves c = moves-plain c.args.checked.now.plan c.args.deps c.compile_dwell.result c.plan-plan.ensures.checked.limits c.compile_dwell.ensures.program

pub returns-clause-short : goal.returns-clause-short
returns-clause-short c = short-plain (is_passable c.args.checked.now.grid) c.args.checked.now.instance c.args.checked.now.plan c.args.deps c.compile_dwell.result c.plan-plan.ensures.checked.limits c.compile_dwell.ensures.program c.compile_dwell.ensures.accepted

pub returns-clause-equally : goal.returns-clause-equally
returns-clause-equally c = runs-plain c.args.checked.now.plan c.compile_dwell.result c.compile_dwell.ensures.equally
