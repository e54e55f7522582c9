-- The conditions on a `many` line as the code tests them.
pub mod Sources
pub mod Conditions
