pub mod Plans
pub mod Numbers
pub mod Parts
pub mod Brought
pub mod Faults
