pub mod Holders
pub mod HolderLaws
