pub mod buffered
pub mod complete
pub mod cutting
pub mod ordered
pub mod printed
pub mod sound
