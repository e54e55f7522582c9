-- A cone that fits has a table, and one truth for each value.
use Rattle.std.specs.Prelude.{◌≡◌, refl, true, List, ℕ, ◌^◌, leb, length}
use Rattle.std.proofs.lemmas.Bool.{false≢true}
use Rattle.std.proofs.Math.Option.{Option, none, some}
use Rattle.laws.specs.Test.{is_some, both_right}
use Rattle.rules.specs.declared.Settings.{Settings}
use Rattle.rules.specs.Builder.{known_entries}
use Rattle.rules.specs.Cone.{Cone, values, completed, encoding, is_lut_valid, within_norm, norm2, cone_span, fits}
use Rattle.rules.specs.Network.{LutNode}
use Rattle.theorems.specs.Rows.{Consistent, known_exact}
use Rattle.theorems.specs.ConeValues.{values_long}

pub fits_table : (s : Settings) (nodes : List LutNode) (c : Cone) → fits s nodes c ≡ true → is_some (encoding s.p c) ≡ true
unfolding fits is_lut_valid
fits_table s nodes c e =
    both_right (leb (cone_span c) s.m) (is_some (encoding s.p c)) (both_right (within_norm s (norm2 nodes c)) (is_lut_valid s c) e)

pub known_some : (P : ℕ) (k : Option (List ℕ)) → is_some (completed P k) ≡ true → (l : List ℕ) × (k ≡ some l)
unfolding completed
known_some P none e = absurd (false≢true e)
known_some P (some l) e = (l, refl)

pub fits_consistent : (s : Settings) (nodes : List LutNode) (c : Cone) → length c.coefficients ≡ length c.support → length c.truth ≡ 2 ^ length c.support
    → fits s nodes c ≡ true → Consistent (values c) c.truth
unfolding encoding
fits_consistent s nodes c same rows e = (known_exact (values c) c.truth (values_long c same rows)).0 (known_some s.p (known_entries (values c) c.truth) (fits_table s nodes c e))
