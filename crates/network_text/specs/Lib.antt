-- What the code reads of a network's lines, and how that stands for the definitions of crates/rules.
pub mod Table
pub mod Lines
pub mod Terms
pub mod Readers
