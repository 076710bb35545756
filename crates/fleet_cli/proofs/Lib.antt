pub mod FileLemmas
pub mod DispatchLemmas
pub mod RunLemmas
