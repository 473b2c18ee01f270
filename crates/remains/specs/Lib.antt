pub mod Remains
pub mod RemainLaws
