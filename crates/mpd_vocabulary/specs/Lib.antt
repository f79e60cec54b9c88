pub mod Topics
pub mod Reading
pub mod Faults
pub mod Conditions
