-- The mapper by its definition on small circuits, evaluated by the checker and compared with the Rust's answers.
pub mod Case
pub mod Computing
pub mod Policies
pub mod Gates
pub mod Pairs
pub mod Fillings
pub mod Bootstraps
pub mod Sharing
pub mod Refusals
pub mod Weights
pub mod Buffers
pub mod Sessions
pub mod NineCases
pub mod Depths
pub mod Trials
pub mod Editions
pub mod Counts
