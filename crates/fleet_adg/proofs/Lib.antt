pub mod Basics
pub mod Moves
pub mod Entry
pub mod Programs
pub mod Limits
pub mod Latest
pub mod Pass
pub mod Folds
pub mod Rows
pub mod SweepSteps
pub mod MoveRows
pub mod Depth
pub mod Follow
pub mod Listing
pub mod Accepted
pub mod Alike
pub mod Staying
pub mod Short
pub mod Thinning
pub mod AsWritten
pub mod RunPlan
pub mod Trains
mod RestMade
mod TasksOf
mod Joined
mod ThinnedBytes
mod Words
