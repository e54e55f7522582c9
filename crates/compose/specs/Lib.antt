-- Laws that the composition of two cones and a cone without its idle sources are proved by.
pub mod Compose
pub mod Basis
pub mod Simplify
