-- The run as crates/rules has it.
pub mod Run
