-- What a circuit that was read gives to the steps, and what the steps give back.
pub mod Asked
pub mod Finish
pub mod Entry
