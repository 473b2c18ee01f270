pub mod Search
pub mod SearchLaws
pub mod CellLaws
