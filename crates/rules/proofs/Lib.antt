pub mod Tried
pub mod TriedRenamed
pub mod TriedGaps
pub mod TriedPlaces
