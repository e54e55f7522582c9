-- A cone's bytes by its fields.
use Rattle.std.specs.Prelude.{◌≡◌, refl, List, ◌∷◌, ◌++◌, map, ℕ, ℤ, take}
use mathlib.Core.List.{flat_map}
use Rattle.rules.specs.Cone as rules
use Rattle.rotation.specs.Entries.{numbers}
use Rattle.cone.specs.declared.Cone.{Cone}
use Rattle.cone.specs.View.{cone_of, view_sources, entries_held}
use Rattle.retuning.specs.Kept.{two_bytes, signed_byte, entries_or_none, cone_bytes}

pub bytes_are : (c : Cone) {sources : List ℕ} {coefs : List ℤ} {span : ℕ} → sources ≡ (cone_of c).support → coefs ≡ (cone_of c).coefficients → span ≡ rules.cone_span (cone_of c)
    → cone_bytes (cone_of c) ≡ c.n ∷ (flat_map two_bytes sources ++ map signed_byte coefs ++ numbers (take span c.known))
unfolding cone_bytes entries_or_none
bytes_are c e f g = rw (e, f, g, entries_held c, view_sources c) refl
