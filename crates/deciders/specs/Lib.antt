pub mod Deciders
pub mod DeciderLaws
