pub mod Unique
pub mod Numbered
pub mod Zero
