-- Theorems whose statements stand in specs/.
pub mod Retuned
