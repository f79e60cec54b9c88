pub mod ListLemmas
pub mod TellLemmas
pub mod CallLemmas
pub mod PastLemmas
pub mod LostLemmas
pub mod StepLemmas
