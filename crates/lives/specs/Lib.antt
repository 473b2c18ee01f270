pub mod Near
pub mod ByWalks
pub mod Left
