-- The sums of all assignments, the first that is a value, and which reading a node gets.
pub mod Rows
pub mod Nodes
pub mod Reply
