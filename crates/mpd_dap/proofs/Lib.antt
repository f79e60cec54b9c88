pub mod ReadLemmas
pub mod ListLemmas
pub mod WantLemmas
pub mod FrameLemmas
pub mod PlainLemmas
