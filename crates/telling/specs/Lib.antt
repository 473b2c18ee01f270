pub mod Telling
pub mod TellingLaws
