pub mod Words
pub mod Lanes
pub mod Joining
pub mod Counting
pub mod Answered
pub mod Gathered
pub mod AwaitOrder
mod Settling
pub mod Flagged
pub mod JoinLaws
mod Slotting
pub mod RowsMade
pub mod JoinLevels
pub mod Walking
