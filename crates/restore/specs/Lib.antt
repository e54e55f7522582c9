-- A state that stands in a buffer; what its bytes say of a circuit that was read, and the other way round.
pub mod SmallBefore
pub mod Front
pub mod ReadBack
pub mod Standing
