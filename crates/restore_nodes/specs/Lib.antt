pub mod Cells
pub mod Made
pub mod Sums
pub mod Kinds
pub mod Restored
