pub mod Columns
pub mod ColumnLaws
