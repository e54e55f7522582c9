-- How a network read of either edition stands for the definitions of crates/rules.
pub mod Reading
pub mod Put
