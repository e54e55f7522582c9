-- Wanted nodes as marks, and their new numbers.
pub mod Prune
