pub mod HandedOps
pub mod OpsLaws
