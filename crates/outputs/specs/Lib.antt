-- The outputs on the way, and the laws that the walk over them is proved by.
pub mod Outputs
pub mod OutputsWalk
