-- Rows of texts: what is read, and what is printed.
pub mod BarrierReaderRows
pub mod DividedRows
pub mod FormRows
pub mod LineRows
pub mod PrintRows
pub mod ReaderRows
pub mod RequestReaderRows
pub mod TextRows
pub mod VersionReaderRows
pub mod WiderReaderRows
pub mod WildcardReaderRows
