pub mod Boards
pub mod SweptLaws
pub mod BoardLaws
