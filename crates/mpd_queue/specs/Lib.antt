pub mod InOrder
pub mod Views
pub mod Links
pub mod Chained
pub mod Cells
pub mod History
pub mod Changes
pub mod ListRows
