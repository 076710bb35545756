use Rattle.fleet_plan.proofs.FaultLaws.{not_free, one_fault}
use Rattle.fleet_plan.proofs.Decisions.{free_or_fault}
use Rattle.fleet_plan.proofs.fault_laws.a_plan_is_free_or_has_a_first_fault.Goals as goal

pub returns-clause-either : goal.returns-clause-either
returns-clause-either c = free_or_fault c.cells_have_places_of_their_own.ensures

pub returns-clause-not_both : goal.returns-clause-not_both
returns-clause-not_both c = not_free

pub returns-clause-one : goal.returns-clause-one
returns-clause-one c = one_fault
