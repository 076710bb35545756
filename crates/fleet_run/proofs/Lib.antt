pub mod Closing
pub mod SourceLemmas
pub mod Ending
pub mod Progress
pub mod UnderWay
pub mod Passing
pub mod Rehearsed
pub mod HoldLemmas
pub mod HoldLaws
pub mod HoldsWritten
pub mod TraceLemmas
pub mod Patched
pub mod Lines
pub mod Resized
mod Words
