pub mod Cited
pub mod Written
pub mod Words
pub mod Telling
pub mod Steps
pub mod Texts
pub mod LogText
pub mod Found
pub mod Heard
pub mod Reports
pub mod Outcomes
pub mod Taking
pub mod TalkLaws
pub mod Leading
pub mod Promises
pub mod AsRun
pub mod Told
pub mod Replaying
pub mod Spelling
pub mod Kept
pub mod Said
mod WindowLemmas
mod BackLemmas
mod StreamLemmas
pub mod Stood
mod BreakLemmas
mod CostLemmas
