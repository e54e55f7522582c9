-- What the bytes of a cell ask, and lists put piece by piece.
pub mod Small
pub mod Pieces
