pub mod grammar
pub mod runs
pub mod script
pub mod steps
pub mod texts
pub mod devices
