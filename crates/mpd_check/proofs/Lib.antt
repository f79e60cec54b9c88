mod VerdictLemmas
mod CheckLemmas
mod GroupLemmas
pub mod ListingLemmas
mod OutcomesLemmas
pub mod WholeLemmas
