pub mod StartLines
pub mod StartLineLaws
