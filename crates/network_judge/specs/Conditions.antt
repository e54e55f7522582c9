-- The conditions that a line meets which is good on its own: those of the lines before it.
use Rattle.std.specs.Prelude.{◌≡◌, Bool, ◌||◌, not, List, [], ◌∷◌, ◌++◌, ℕ, ◌+◌, ◌<◌, ◌≤◌, leb, ltb, length}
use Rattle.std.proofs.Common.{⊎_elim, arith}
use borrow.Author.Tests.{le-leb, lt-leb, lt-ltb, le-ltb}
use Rattle.laws.specs.Test.{if◌then◌otherwise◌, lt_or_le}
use Rattle.rules.specs.CircuitText.{listed, no_node}
use Rattle.rules.specs.Form.{Condition, ◌when◌}
use Rattle.rules.specs.Network.{Input, Linear, Bootstrap, node_norm}
use Rattle.rules.specs.NetworkText.{NetPrefix, NetworkLine, NetLine, NodeLine, OutLine, started, ending, all_inputs, names, sources, any_bad_source, unknown, settings_of, no_bit, safety_conditions}
use Rattle.std.proofs.lemmas.List.{length-map}
use Rattle.theorems.specs.Pieces.{from_length}
use Rattle.text.specs.Judged.{lowest}

-- Before a sum, a boot or some tables, for which there may be no room.
unfoldable pub room_conditions : NetPrefix → Bool → List Condition
room_conditions w full = (21 when not (started w)) ∷ (21 when ending w) ∷ (21 when full) ∷ []

-- 21 and 22.
unfoldable pub later_conditions : NetPrefix → NetworkLine → List Condition
later_conditions w (NetLine n) = (21 when started w) ∷ []
later_conditions w (NodeLine (Input n)) =
    (21 when not (started w))
    ∷ (21 when (ending w || not (all_inputs w.nodes)))
    ∷ (21 when leb 32 (length w.nodes))
    ∷ (21 when listed n.name (names w.nodes))
    ∷ []
later_conditions w (NodeLine (Linear c ts)) = room_conditions w (leb 672 (length w.nodes)) ++ (22 when any_bad_source w.nodes (sources ts)) ∷ []
later_conditions w (NodeLine (Bootstrap i table)) = room_conditions w (leb 672 (length w.nodes)) ++ (22 when unknown w.nodes i) ∷ []
later_conditions w (OutLine o) =
    (21 when not (started w)) ∷ (21 when leb 32 (length w.outputs)) ∷ (22 when no_node (length w.nodes) o.wire) ∷ []

-- 23 to 26 only where they are judged.
unfoldable pub safety : Bool → NetPrefix → NetworkLine → List Condition
safety judge w l = if judge then safety_conditions w l otherwise []

unfoldable pub line_conditions : Bool → NetPrefix → NetworkLine → List Condition
line_conditions judge w l = later_conditions w l ++ safety judge w l

-- What the proofs of the tests see the bodies of.
unfoldable pub conditions : Unit {0}
unfolding lowest settings_of node_norm no_bit started ending all_inputs unknown no_node room_conditions later_conditions safety line_conditions safety_conditions
conditions = tt

-- One node more.
pub one_more : (n : ℕ) → ltb 672 (n + 1) ≡ leb 672 n
one_more n =
    ⊎_elim (λ (l : 672 < n + 1). rw (lt-ltb 672 (n + 1) l, le-leb 672 n (omega arith)))
    (λ (l : n + 1 ≤ 672). rw (le-ltb 672 (n + 1) l, lt-leb 672 n (omega arith))) (lt_or_le 672 (n + 1))

pub ruleset tests = (length-map, from_length, one_more)
