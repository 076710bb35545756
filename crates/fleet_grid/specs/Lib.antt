pub mod Ground
pub mod MapText
pub mod MapReading
pub mod Stored
pub mod RefusalWords
pub mod Table
pub mod Lists
pub mod MapWriting
