pub mod WritingOps
pub mod WritingOpLaws
