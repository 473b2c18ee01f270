pub mod Early
pub mod EarlyLaws
