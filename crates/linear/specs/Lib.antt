-- Laws of a linear form's values, their span and the least of them.
pub mod Table
pub mod Span
