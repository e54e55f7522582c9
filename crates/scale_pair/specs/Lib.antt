-- A scale pair's coefficients and its score.
pub mod Factor
pub mod Score
pub mod Pair
