-- The tables of a line one by one, and which form a line of edition 2 is.
pub mod Walk
pub mod LineForms
