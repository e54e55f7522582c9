-- The rows of an attempt, the values of a scale pair at them, and their energy.
pub mod MergedIntegers
pub mod MergedValues
pub mod Rows
pub mod RowsCompacted
pub mod EnergyMoments
pub mod RowsFrame
pub mod EnergyRows
