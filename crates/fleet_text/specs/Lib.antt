pub mod Text
pub mod Steps
pub mod Verdict
pub mod Sink
pub mod Taken
pub mod Row
pub mod Words
pub mod Refusals
