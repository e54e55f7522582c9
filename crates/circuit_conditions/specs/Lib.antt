-- What is kept of a gate's wires, and that it decides the conditions 6 and 7.
pub mod Wires
