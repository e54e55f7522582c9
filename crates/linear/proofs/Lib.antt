-- What the loops of this crate lean on.
pub mod Turn
