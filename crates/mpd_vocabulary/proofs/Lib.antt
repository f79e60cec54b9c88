pub mod FaultLemmas
pub mod PieceLemmas
