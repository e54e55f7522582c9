-- Why the readers of crates/text are right.
pub mod Word
pub mod Run
pub mod Number
