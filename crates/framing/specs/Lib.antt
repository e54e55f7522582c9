-- The service's framing: what the code does with each byte, and that the whole of it is the definition's output.
pub mod Jobs
pub mod Step
pub mod Feeding
pub mod Lines
pub mod Meaning
pub mod Text
pub mod Whole
pub mod Theorems
