pub mod Handed
pub mod HeadLaws
pub mod JudgeLaws
