-- The steps that are listed, and members of lists.
pub mod Listed
pub mod Members
pub mod Reached
pub mod Twice
