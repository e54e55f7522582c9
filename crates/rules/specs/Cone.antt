-- Cones (document 01, "A cone", "Norm of a sum"; `Cone` and its tests in mapper.rs).
use Rattle.std.specs.Prelude.{Bool, true, false, ◌&&◌, not, ℕ, ◌+◌, ◌*◌, leb, ℤ, pos, nat_abs, ◌+ℤ◌, get_or}
use mathlib.Core.List.{List, [], ◌∷◌, ◌++◌, map, zip_with}
use Rattle.std.proofs.Math.Option
use Rattle.std.proofs.Math.Option.{Option, none, some}
use Rattle.std.specs.Int.Signed.{lt_z}
use Rattle.laws.specs.Test.{if◌then◌otherwise◌, is_some}
use Rattle.rules.specs.declared.Settings.{Settings}
use Rattle.rules.specs.Builder.{known_entries, completion, last_tried}
use Rattle.rules.specs.Network.{Term, LutNode, norm}
use Rattle.rules.specs.NetworkText.{over}
use Rattle.rules.specs.Span.{span}

pub record Cone : Type 0 where
  -- the sources: different nodes, each an `in` or a `boot`
  pub support : List ℕ
  -- a whole coefficient each
  pub coefficients : List ℤ
  -- a bit for each assignment, the first source the highest bit
  pub truth : List ℕ

-- Cone::constant
unfoldable pub constant : ℕ → Cone
constant b = record { support = []; coefficients = []; truth = b ∷ [] }

-- Cone::identity
unfoldable pub identity : ℕ → Cone
identity node = record { support = node ∷ []; coefficients = pos 1 ∷ []; truth = 0 ∷ 1 ∷ [] }

-- ---- Rows. A cone's row is the number that the bits of its sources make, the first the highest.

unfoldable pub row_from : ℕ → List ℕ → ℕ
row_from n [] = n
row_from n (b ∷ bs) = row_from (2 * n + b) bs

-- The cone's bit where each node has a bit.
unfoldable pub cone_bit : (ℕ → ℕ) → Cone → ℕ
cone_bit bit c = get_or c.truth (row_from 0 (map bit c.support)) 0

-- linear_table: at each assignment the sum of the coefficients of the sources that are 1.
unfoldable pub linear_table : List ℤ → List ℤ
linear_table [] = pos 0 ∷ []
linear_table (c ∷ cs) = let t = linear_table cs in t ++ map (λ v. c +ℤ v) t

-- multivalue_table
unfoldable pub values : Cone → List ℤ
values c = linear_table c.coefficients

-- Cone::span
unfoldable pub cone_span : Cone → ℕ
cone_span c = span (values c)

-- Each coefficient with its source.
unfoldable pub terms : Cone → List Term
terms c = zip_with (λ (k : ℤ) (n : ℕ). record { coef = k; node = n }) c.coefficients c.support

-- Cone::norm2, each source with its weight.
unfoldable pub norm2 : List LutNode → Cone → ℕ
norm2 nodes c = norm nodes (terms c)

-- EnergyMoments::energy over the divisor's square: squared values summed over all rows.
unfoldable pub energy : List ℤ → ℕ
energy [] = 0
energy (v ∷ vs) = nat_abs v * nat_abs v + energy vs

-- ---- What a cone must keep to.

-- A table of the cone: each row's truth at its value, completed; none where that can't be.
unfoldable pub completed : ℕ → Option (List ℕ) → Option (List ℕ)
completed P none = none
completed P (some known) = completion P known

unfoldable pub encoding : ℕ → Cone → Option (List ℕ)
encoding P c = completed P (known_entries (values c) c.truth)

-- is_lut_valid, the encoding check.
unfoldable pub is_lut_valid : Settings → Cone → Bool
is_lut_valid s c = let r = is_some (encoding s.p c) in leb (cone_span c) s.m && r

-- bootstrap_table: the encoding's. Each cone that is built within the limits has one (`never_ten`, crates/mapped), so the last filling is not tested.
unfoldable pub bootstrap_table : ℕ → Cone → List ℕ
bootstrap_table P c = last_tried P (Option.get_or (known_entries (values c) c.truth) [])

-- Within max_norm2.
unfoldable pub within_norm : Settings → ℕ → Bool
within_norm s n = not (over s.norm n)

-- A cone that may stand: evaluate_prepared of a candidate, reusable_cone_coefficients of a form.
unfoldable pub fits : Settings → List LutNode → Cone → Bool
fits s nodes c = let r = is_lut_valid s c in within_norm s (norm2 nodes c) && r

-- Result<A, String>, with the number of the refusal for its text; `>>=` is `?`.
pub data Result (A : Type 0) : Type 0 where
  ok : A → Result A
  err : ℕ → Result A

infixl 6 ◌>>=◌
abbrev pub ◌>>=◌ : {A B : Type 0} → Result A → (A → Result B) → Result B
ok a >>= f = f a
err k >>= f = err k

-- validate_cone without its encoding check, which no cone that is built fails (`never_ten`).
unfoldable pub validate_cone : Settings → List LutNode → Cone → Result Cone
validate_cone s nodes c = if within_norm s (norm2 nodes c) then ok c otherwise err 8

-- ---- The best of some cones.

-- A cone, and the numbers that it is ranked by.
pub record Candidate : Type 0 where
  pub score : List ℤ
  pub cone : Cone

-- The first number in which they differ decides.
unfoldable pub less : List ℤ → List ℤ → Bool
less [] ys = false
less (x ∷ xs) [] = false
less (x ∷ xs) (y ∷ ys) = let r = less xs ys in if lt_z x y then true otherwise if lt_z y x then false otherwise r

-- The best so far gives way only to a lower score.
unfoldable pub better : Option Candidate → Candidate → Candidate
better none c = c
better (some d) c = if less c.score d.score then c otherwise d

unfoldable pub best_from : Option Candidate → List Candidate → Option Candidate
best_from d [] = d
best_from d (c ∷ cs) = best_from (some (better d c)) cs

-- The first of the least score.
unfoldable pub best : List Candidate → Option Candidate
best cs = best_from none cs

-- cone_order_key: span, norm.
unfoldable pub cone_order_key : List LutNode → Cone → List ℤ
cone_order_key nodes c = pos (cone_span c) ∷ pos (norm2 nodes c) ∷ []
