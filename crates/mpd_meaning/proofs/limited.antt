-- What is written is read, or refused by a limit.
mod Limited
pub mod LimitedLaws
mod LimitedParts
mod LimitedScript
mod LimitedStatements
mod Limits
pub mod ReadExactly
