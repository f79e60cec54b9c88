-- What stands before a fault can be completed.
pub mod FirstWrong
pub mod NamesDeclared
mod Viable
mod ViableHeader
mod ViableParts
pub mod ViableScript
mod ViableTerms
mod ViableTrees
