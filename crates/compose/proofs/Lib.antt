-- Lemmas that the proofs of `composed_truth` and `simplify_cone` lean on.
pub mod Result
pub mod Turn
