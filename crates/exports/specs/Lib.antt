-- How document 01's answers are laid out as numbers for C and Rust.
pub mod Numbers
pub mod Laws
pub mod Places
