-- The limits that the contracts ask for, and laws of the definitions.
pub mod Limits
pub mod Divisor
pub mod Norm
