pub mod ReadingOps
pub mod ReadingOpLaws
