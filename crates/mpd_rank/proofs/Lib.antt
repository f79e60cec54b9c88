pub mod PlanLemmas
pub mod RankLemmas
