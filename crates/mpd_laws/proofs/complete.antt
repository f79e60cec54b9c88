-- What is written is read, and no depth, budget or memory runs out.
pub mod Cells
pub mod Complete
pub mod CompleteParts
pub mod CompleteScript
pub mod CompleteStatements
pub mod Enough
pub mod EnoughBlocks
pub mod NoMemory
pub mod Turns
