pub mod WritingHead
pub mod WritingHeadLaws
