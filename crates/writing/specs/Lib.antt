pub mod WritingLaws
pub mod WrittenLaws
