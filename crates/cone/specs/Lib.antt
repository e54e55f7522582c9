-- What a cone of the code stands for, and the laws that it is proved by.
pub mod Fields
pub mod View
pub mod Sources
pub mod Order
pub mod Valid
pub mod Unary
