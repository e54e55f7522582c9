-- How the code's answers stand for the readers of crates/rules, and what the crates above cite of lines, names and numbers.
pub mod Pieces
pub mod FirstLine
pub mod Judged
pub mod Many
pub mod Capped
pub mod Cap
pub mod Number
pub mod Decimal
pub mod Name
