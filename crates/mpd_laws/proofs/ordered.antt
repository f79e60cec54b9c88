-- Calls complete in order: eligible pairs, what each step keeps, and lists that are cut.
pub mod CallsInOrder
pub mod Eligible
pub mod LocalActivity
mod OrderIssues
mod OrderReleases
pub mod OrderSteps
pub mod Orderly
pub mod Releases
pub mod Splits
