pub mod CellLemmas
pub mod ReadLemmas
pub mod StandLemmas
pub mod SourceLemmas
pub mod JoinLemmas
pub mod PlacedLemmas
pub mod EqualLemmas
pub mod MarkLemmas
