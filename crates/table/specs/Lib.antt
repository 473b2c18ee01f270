pub mod Tables
pub mod TableLaws
pub mod JudgedLaws
