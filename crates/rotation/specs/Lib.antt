-- Known entries by their numbers; what is left in a lent table, whatever the answer is; the pair test by its loops.
pub mod Entries
pub mod Left
pub mod Pairs
