pub mod Verdicts
pub mod RefusalLaws
pub mod Fields
pub mod FieldLaws
