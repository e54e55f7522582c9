-- The service program: its bytes, read by read.
pub mod Chunk
