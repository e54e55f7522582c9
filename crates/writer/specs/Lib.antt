-- What the writer leaves in its buffer, piece by piece.
pub mod Live
pub mod Kept
pub mod Outputs
pub mod Whole
