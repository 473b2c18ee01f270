pub mod Whole
pub mod PairLaws
pub mod WholeLaws
