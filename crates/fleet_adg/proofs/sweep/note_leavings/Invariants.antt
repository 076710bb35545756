use Rattle.fleet_adg.proofs.Words.{take, kind_of, movers}
use Rattle.fleet_adg.proofs.SweepSteps.{IsNotedBelow}
use Rattle.fleet_adg.proofs.sweep.note_leavings.Given as goal

abbrev pub invariant-loop-one : goal.invariant-loop-one
invariant-loop-one l = IsNotedBelow l.at.grid.now l.at.plan.now (kind_of l.initial.leavings) l.at.time (take l.one-index (movers l.at.plan.now l.at.time)) l.leavings
