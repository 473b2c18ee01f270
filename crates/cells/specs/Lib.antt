pub mod Cells
pub mod WalkLaws
pub mod UserLaws
pub mod WriteLaws
