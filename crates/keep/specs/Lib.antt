-- The kept bytes as a cursor puts them.
pub mod Nodes
pub mod Cones
pub mod Whole
pub mod Lengths
