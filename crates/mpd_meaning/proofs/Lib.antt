mod limited
pub mod listed
pub mod moving
mod local
mod viable
