pub mod Blame
pub mod Told
