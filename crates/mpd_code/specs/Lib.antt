pub mod Left
pub mod Stands
pub mod Views
pub mod Lowered
pub mod Versions
