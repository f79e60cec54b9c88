pub mod calls
pub mod texts
pub mod worlds
