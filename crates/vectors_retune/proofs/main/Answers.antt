use Rattle.std.proofs.Common.{sym, ℕ}
use Rattle.std.proofs.lemmas.List.{length-replicate}
use Rattle.vectors_retune.proofs.main.Goals as goal

-- The input is too long for a tactic to count its bytes.
pub slice_bounds-read-end : goal.slice_bounds-read-end
slice_bounds-read-end c = sym (length-replicate {0} {A = ℕ} 786432 0)
