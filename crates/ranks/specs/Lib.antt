pub mod Ranks
pub mod RankLaws
