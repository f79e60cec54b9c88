-- How texts are cut into tokens and lines.
pub mod Cuts
pub mod Ends
pub mod GoodSpots
pub mod LineCuts
pub mod Symbols
pub mod Runs
pub mod Signs
