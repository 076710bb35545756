pub mod FieldLaws
pub mod WordLaws
pub mod NumberLaws
pub mod LineLaws
pub mod ScenLoop
pub mod ScenLaws
pub mod ScenFaults
pub mod Written
