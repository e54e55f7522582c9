-- The header as a cursor puts it, and as it is compared.
pub mod Small
pub mod Header
pub mod Lengths
pub mod Compared
