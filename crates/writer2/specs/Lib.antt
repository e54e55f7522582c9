-- Edition 2 written node by node.
pub mod Stream
pub mod Node2
pub mod Whole2
