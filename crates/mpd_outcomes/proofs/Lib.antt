mod SplitLemmas
mod KeyLemmas
mod PushLemmas
mod FutureLemmas
pub mod TellLemmas
pub mod WalkLemmas
mod FrontLemmas
mod MoveLemmas
mod StackLemmas
mod EndLemmas
mod AnswerLemmas
mod GatherLemmas
mod GoalLemmas
mod PartLemmas
mod TableLemmas
mod AlongLemmas
mod Alike
mod Quiet
mod Asked
mod Comes
mod Issued
mod Stepping
mod Paired
mod Follow
mod SameWalks
mod Keys
pub mod Heights
pub mod Laws
