pub mod Bounds
pub mod CarryLaws
pub mod BoundLaws
