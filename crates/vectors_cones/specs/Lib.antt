-- A cone by its rows, and what makes it one.
pub mod Made
