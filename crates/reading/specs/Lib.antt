pub mod Reading
pub mod ReadingLaws
pub mod FieldsLaws
pub mod ReadLaws
