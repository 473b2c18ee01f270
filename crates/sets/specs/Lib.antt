-- what crates above this one cite of it
pub mod Laws
pub mod Members
pub mod Walks
