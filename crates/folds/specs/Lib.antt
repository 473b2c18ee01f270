pub mod Folds
pub mod FoldLaws
