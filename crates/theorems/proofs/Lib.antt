-- Theorems whose statements or lemmas stand in specs/.
pub mod Readings
pub mod AdmissionExact
pub mod Weights
pub mod Bounds
pub mod SimplifiedCones
pub mod AdmittedSafe
pub mod TrialRuns
