-- The lines so far, and the conditions on a line after them.
pub mod Holds
pub mod View
pub mod Scans
pub mod Conditions
