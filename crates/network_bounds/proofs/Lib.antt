-- The loops over a node's terms and over a table's bits, and the code's tests of a node's bounds.
pub mod Held
pub mod Fits
pub mod Tables
pub mod Summing
