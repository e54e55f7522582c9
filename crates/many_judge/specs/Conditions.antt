-- The conditions that a `many` line meets which is good on its own: those of the lines before it.
use Rattle.std.specs.Prelude.{List, ◌∷◌, ◌++◌, ℕ, ◌+◌, ltb, length}
use Rattle.std.proofs.lemmas.List.{length-map}
use Rattle.rules.specs.Edition2.{Table, Many, safety_conditions2}
use Rattle.rules.specs.Form.{Condition, ◌when◌}
use Rattle.rules.specs.NetworkText.{NetPrefix, started, ending, unknown, settings_of}
use Rattle.text.specs.Judged.{lowest}
use Rattle.network_judge.specs.Conditions.{room_conditions}

unfoldable pub many_conditions : NetPrefix → ℕ → List Table → List Condition
many_conditions w i ts = room_conditions w (ltb 672 (length w.nodes + length ts)) ++ (22 when unknown w.nodes i) ∷ safety_conditions2 w (Many i ts)

-- What the proofs of the tests see the bodies of.
unfoldable pub conditions : Unit {0}
unfolding lowest started ending unknown settings_of room_conditions many_conditions safety_conditions2
conditions = tt

pub ruleset tests = (length-map)
