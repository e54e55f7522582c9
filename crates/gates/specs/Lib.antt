-- The state of the gates on the way: store, cones, and the laws that the walk over the gates is proved by.
pub mod Wired
pub mod Gates
pub mod Loop
pub mod Start
