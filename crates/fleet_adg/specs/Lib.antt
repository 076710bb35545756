pub mod Compiled
pub mod Leavings
pub mod Sweep
pub mod RefusalWords
pub mod Thinned
pub mod Remaining
pub mod ProgramBytes
pub mod AsWritten
