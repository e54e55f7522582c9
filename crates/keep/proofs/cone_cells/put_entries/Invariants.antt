use Rattle.std.specs.Prelude.{[], ◌∷◌}
use Rattle.rotation.specs.Entries.{number_of_entry, numbers}
use Rattle.lines.specs.Put.{Left}
use Rattle.cells.specs.Pieces.{pieces_left}
use Rattle.keep.proofs.cone_cells.put_entries.Given as goal

abbrev pub invariant-loop-entry : goal.invariant-loop-entry
invariant-loop-entry l = Left (numbers l.known) l.initial.cursor (pieces_left (λ x. number_of_entry x ∷ []) l.known l.entry-index) l.cursor
