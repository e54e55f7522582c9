-- The node store: what its values stand for, and what stands in it.
pub mod View
pub mod Terms
pub mod Store
pub mod Norm
pub mod Depth
pub mod Seen
pub mod Grown
