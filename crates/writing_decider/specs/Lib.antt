pub mod WritingDecider
