-- The bytes of a read.
pub mod Bytes
