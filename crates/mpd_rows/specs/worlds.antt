-- Rows of worlds, steps and decisions.
pub mod DecisionRows
pub mod EndRows
pub mod KindRows
pub mod LeftRows
pub mod MoreRows
pub mod Rows
pub mod Statements
pub mod StepRows
pub mod ValueRows
