pub mod GlyphLemmas
pub mod MarkLemmas
pub mod TableLemmas
pub mod LawLemmas
pub mod RowLemmas
