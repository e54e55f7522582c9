-- Mathematics that is not ours: what the other crates' definitions and proofs lean on.
pub mod Test
pub mod Tests
pub mod Integer
pub mod Gcd
pub mod Lists
pub mod Tabulate
pub mod Sums
pub mod Made
pub mod Front
pub mod Over
pub mod Tail
pub mod Select
pub mod Permuted
pub mod Digits
pub mod Laid
pub mod Modulo
pub mod Circle
