-- Whether the bytes handed to a run are bits, one an input.
pub mod Bits
