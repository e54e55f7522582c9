-- The converter in code's terms: new numbers, how long a text is.
pub mod Moved
pub mod Length
pub mod Both
pub mod Entry
