pub mod Raises
pub mod RaiseLaws
