pub mod Words
pub mod WordLaws
pub mod AskLaws
pub mod ByteLaws
