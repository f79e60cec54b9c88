-- A script as trees.
pub mod Declaration
pub mod Parts
pub mod Program
pub mod Term
pub mod TermCode
pub mod TermOf
pub mod Tree
pub mod TreeCode
pub mod TreeFalls
pub mod TreeOf
