-- What the structs of a gate stand for, and the laws that its code is proved by.
pub mod View
pub mod Gate
pub mod GateSteps
