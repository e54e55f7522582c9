use Rattle.std.specs.Prelude.{map, [], ◌∷◌}
use Rattle.retuning.specs.Kept.{signed_byte}
use Rattle.lines.specs.Put.{Left}
use Rattle.cells.specs.Pieces.{pieces_left}
use Rattle.keep.proofs.cone_cells.put_coefficients.Given as goal

abbrev pub invariant-loop-c : goal.invariant-loop-c
invariant-loop-c l = Left (map signed_byte l.coefs) l.initial.cursor (pieces_left (λ z. signed_byte z ∷ []) l.coefs l.c-index) l.cursor
