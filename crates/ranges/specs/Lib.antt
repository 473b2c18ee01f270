pub mod Ranges
pub mod RangeLaws
