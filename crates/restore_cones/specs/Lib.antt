-- The fields of a cone's cell, by its bytes.
pub mod Cell
