pub mod Layout
pub mod Sights
pub mod Says
