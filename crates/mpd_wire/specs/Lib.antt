pub mod Requests
pub mod Words
pub mod Replies
pub mod FaultNumbers
pub mod Says
pub mod Ended
pub mod RequestRows
