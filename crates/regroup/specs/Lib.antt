-- The new order of the nodes, and the new numbers.
pub mod Behind
pub mod Order
pub mod Numbers
