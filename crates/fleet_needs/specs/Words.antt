-- The words of programs and chains that are cited here.
pub use Rattle.fleet_model.specs.declared.program.ActionId.{ActionId}
pub use Rattle.fleet_model.specs.declared.program.Await.{Await}
pub use Rattle.fleet_model.specs.Program.{Program, moves, awaits_of, awaits_before, agent_awaits, total_moves, AreInRange, total_awaits, actions_of}
pub use Rattle.fleet_model.specs.Chain.{IsAction, Reaches, DirectlyNeeds, IsCriticalCost, IsNumbering, awaited}
