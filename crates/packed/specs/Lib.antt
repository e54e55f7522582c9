-- Numbers in two bytes.
pub mod Number
pub mod Short
