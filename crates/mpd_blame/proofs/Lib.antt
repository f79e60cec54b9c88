mod ListLemmas
mod SightLemmas
mod BackLemmas
pub mod ToldLemmas
