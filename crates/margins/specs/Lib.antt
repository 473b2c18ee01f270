pub mod Margins
pub mod MarginLaws
