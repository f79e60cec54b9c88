pub mod Asked
pub mod Cursor
pub mod Requests
