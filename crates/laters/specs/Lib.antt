pub mod Laters
pub mod LaterLaws
