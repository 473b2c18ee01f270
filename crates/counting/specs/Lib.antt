pub mod Counting
pub mod CountingLaws
