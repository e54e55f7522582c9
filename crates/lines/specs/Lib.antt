-- What is written of a text, and where.
pub mod Put
pub mod Lines
pub mod Lines2
pub mod Front
pub mod Answer
