-- The fields of a cone's cell, by its bytes, and what is asked of the sources.
use Rattle.std.specs.Prelude.{◌≡◌, true, List, map, ℕ, ◌+◌, ◌*◌, ℤ, pos, ◌-ℤ◌, get_or}
use Rattle.rules.specs.Cone.{linear_table}
use Rattle.rules.specs.NetworkText.{all_different}
use Rattle.cone.specs.Fields.{truth_at}
use Rattle.cone.specs.Sources.{AllBelow}

-- Source i, two bytes.
abbrev pub source_at : List ℕ → ℕ → ℕ
source_at cell i = get_or cell (1 + 2 * i) 0 + 256 * get_or cell (2 + 2 * i) 0

-- Coefficient i, where they begin at `start`.
abbrev pub coefficient_at : List ℕ → ℕ → ℕ → ℤ
coefficient_at cell start i = pos (get_or cell (start + i) 0) -ℤ pos 128

-- For each row the entry at its value.
abbrev pub truths_in : List ℤ → List ℕ → List ℕ
truths_in coefs entries = map (truth_at coefs entries) (linear_table coefs)

-- Different nodes, each one of so many.
pub record Sources (nodes : ℕ) (sources : List ℕ) : Type 0 where
  pub different : all_different sources ≡ true
  pub below : AllBelow nodes sources
