-- A sum's sources, and the table of a node.
pub mod Bounds
pub mod Table
