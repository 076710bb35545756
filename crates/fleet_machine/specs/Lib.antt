pub mod Near
pub mod WaitLists
pub mod Machine
pub mod Confirmed
pub mod AgentSet
pub mod Looked
pub mod Waking
