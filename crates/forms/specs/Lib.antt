-- How the code's answers stand for the readers of wires, limits, signed numbers, weights and the lines that both texts have.
pub mod LineForms
pub mod Wire
pub mod Signed
pub mod Weight
pub mod Forms
pub mod Readers
