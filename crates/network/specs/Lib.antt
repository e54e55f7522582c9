-- A network read line by line into the node store.
pub mod View
pub mod Put
pub mod Verdict
pub mod Added
pub mod Reading
