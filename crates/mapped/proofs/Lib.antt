-- Theorems whose statements stand in specs/, with what leads to them.
pub mod Agrees
pub mod AlwaysMapped
pub mod Cap
pub mod ConeBuilt
pub mod Counts
pub mod NeverTen
pub mod Proved
pub mod Pruned
pub mod TwoSources
pub mod TwoSourcesMet
pub mod Whole
