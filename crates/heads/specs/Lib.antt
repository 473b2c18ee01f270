pub mod Heads
pub mod WordLaws
pub mod HeadLaws
