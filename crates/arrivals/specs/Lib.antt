pub mod Arrivals
pub mod EachLaws
