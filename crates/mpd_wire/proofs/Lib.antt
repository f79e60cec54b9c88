pub mod Json
pub mod Texts
pub mod SayLemmas
pub mod EndLemmas
pub mod ListLemmas
pub mod FeedLemmas
pub mod WordLemmas
