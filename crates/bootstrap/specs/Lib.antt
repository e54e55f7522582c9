-- Cones beside the store, and the laws that a bootstrap is proved by.
pub mod View
pub mod Boot
pub mod Form
pub mod FormWalk
