-- What is read is written so.
mod Budget
pub mod Cheap
mod Counted
pub mod Prices
pub mod ReadVersions
pub mod Sound
pub mod SoundParts
pub mod SoundScript
pub mod SoundStatements
