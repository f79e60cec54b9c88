-- Runs: decisions, breakpoints and trails.
pub mod Breakpoints
pub mod Comparisons
pub mod Decisions
pub mod Running
pub mod Trail
