-- Rows of each kind of call.
pub mod AnyRows
pub mod BarrierRows
pub mod RequestRows
pub mod SendRows
pub mod SlotsRows
pub mod WildcardRows
