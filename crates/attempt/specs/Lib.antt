-- One attempt: its rows, its best pair, and the cone that comes of it.
pub mod Tried
pub mod Merged
pub mod Pair
pub mod PairSources
pub mod PairTrial
