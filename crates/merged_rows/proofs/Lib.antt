-- The energy by moments, and one turn of `compact_rows`.
pub mod EnergyMoments
pub mod Turn
