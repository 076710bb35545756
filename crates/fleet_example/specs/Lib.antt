pub mod Programs
pub mod Plans
pub mod Compiled
pub mod Meetings
pub mod Schedules
pub mod Library
