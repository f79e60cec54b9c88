-- Worlds and their steps.
pub mod BarrierLaws
pub mod Next
pub mod Order
pub mod Outcomes
pub mod Why
pub mod World
