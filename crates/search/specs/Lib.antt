-- The rows of an attempt, the values of a scale pair at them, their energy, and the search over scale pairs.
pub mod Options
pub mod Walk
pub mod Pairs
pub mod Search
pub mod Reuse
pub mod Steps
pub mod Candidates
pub mod Found
pub mod EqualForms
pub mod Policies
