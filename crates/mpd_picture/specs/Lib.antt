pub mod Ends
pub mod Glyphs
pub mod Marks
pub mod MarkTable
pub mod Shapes
pub mod Pictures
pub mod PictureLaws
pub mod PictureRows
