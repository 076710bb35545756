pub mod Arguments
pub mod Values
pub mod Commands
pub mod Request
