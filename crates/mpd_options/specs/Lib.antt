pub mod Clashes
pub mod Ranges
pub mod Refused
