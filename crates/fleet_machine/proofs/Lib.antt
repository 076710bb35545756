pub mod Ready
mod Linked
pub mod Waiting
pub mod Bits
pub mod Flags
mod Marked
pub mod Copied
pub mod Onward
pub mod Indices
pub mod Lacking
pub mod Placed
pub mod Judging
pub mod Waking
pub mod Advanced
mod Lasting
pub mod Marks
mod Carried
pub mod Ticking
mod Woken
pub mod Opened
