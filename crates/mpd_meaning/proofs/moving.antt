-- What steps do to worlds: their match sets, what stays of them, and what a step adds.
pub mod Sets
pub mod Worlds
pub mod Moves
