-- What is kept of the nodes, the largest norm, and the text that is answered.
pub mod Live
pub mod Norm
pub mod Short
pub mod Conclude
pub mod Recorded
