pub mod StandLemmas
pub mod AlikeLemmas
