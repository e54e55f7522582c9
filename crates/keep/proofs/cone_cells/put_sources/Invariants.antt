use mathlib.Core.List.{flat_map}
use Rattle.retuning.specs.Kept.{two_bytes}
use Rattle.lines.specs.Put.{Left}
use Rattle.cells.specs.Pieces.{pieces_left}
use Rattle.keep.proofs.cone_cells.put_sources.Given as goal

abbrev pub invariant-loop-source : goal.invariant-loop-source
invariant-loop-source l = Left (flat_map two_bytes l.sources) l.initial.cursor (pieces_left (two_bytes) l.sources l.source-index) l.cursor
