pub mod Sweeps
pub mod SweepLaws
