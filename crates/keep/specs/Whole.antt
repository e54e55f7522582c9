-- What is kept, of the code's values, and where it stands.
use Rattle.std.specs.Prelude.{◌≡◌, List, map, ℕ, ◌≤◌, length}
use Rattle.std.proofs.Common.{◌∙◌}
use Rattle.laws.specs.Laid.{laid-over}
use Rattle.laws.specs.Over.{over}
use Rattle.rules.specs.declared.Settings.{Settings}
use Rattle.forms.specs.declared.Input as I
use Rattle.forms.specs.declared.Output as O
use Rattle.forms.specs.Forms.{given_of, output_of}
use Rattle.circuit.specs.declared.Gate as G
use Rattle.circuit.specs.View.{gate_of}
use Rattle.cone.specs.declared.Cone.{Cone}
use Rattle.nodes.specs.declared.store.Store.{Store}
use Rattle.gates.specs.Wired.{state_of}
use Rattle.lines.specs.declared.cursor.Cursor.{Cursor}
use Rattle.lines.specs.Put.{Put}
use Rattle.retuning.specs.Kept.{Kept}

abbrev pub kept_of : Settings → List I.Input → List G.Gate → List O.Output → Store → List Cone → Kept
kept_of s is gs os store wires =
    record { settings = s; inputs = map given_of is; gates = map gate_of gs; outputs = map output_of os; state = state_of store wires }

-- ---- laws

-- by a cursor that begins at the start of a buffer with room
pub over_put : {s after : List ℕ} {b a : Cursor} → b.at ≡ 0 → Put s b a → length s ≤ length b.out.now → after ≡ a.out.now → after ≡ over s b.out.now
over_put {s} {after} {b} e p h f = f ∙ rw e at p.bytes ∙ laid-over s b.out.now h
