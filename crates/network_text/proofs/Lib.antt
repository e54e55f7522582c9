-- Which form a line is, and what the bits and the terms are that were read.
pub mod Bits
pub mod Boot
pub mod LineForms
pub mod GoodSums
pub mod Gather
pub mod Gathered
