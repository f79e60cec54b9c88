pub mod BufferLaws
pub mod OrderLaws
