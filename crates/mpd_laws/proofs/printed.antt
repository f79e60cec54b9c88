-- What is printed is read again.
pub mod PrintAgain
pub mod PrintScript
mod PrintStatements
mod PrintTerms
pub mod PrintableStatements
pub mod PrintableTerms
mod ReadCosts
mod ReadTrees
