pub mod StepLaws
pub mod ReadingLaws
pub mod TokenLaws
pub mod FaultLaws
pub mod PrefixLaws
pub mod Same
