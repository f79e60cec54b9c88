pub mod LineLaws
pub mod LineLemmas
pub mod WordLemmas
pub mod KeepLaws
