-- What is read of a text, and its canonical text.
pub mod Canonical
pub mod Costs
pub mod Faults
pub mod Grammar
pub mod Input
pub mod Printable
pub mod ReaderLaws
pub mod Tokens
pub mod Written
