-- The centre of a table (document 02, S-10): a table with pairs that a rotation gives has exactly one, and the rotation with it gives back every bit.
use Rattle.std.specs.Prelude.{◌≡◌, List, ◌↔◌, ℕ, ◌+◌, ◌-◌, ◌<◌, ◌≤◌, ℤ, pos}
use Rattle.std.proofs.Math.Path.{refl, sym, ap}
use Rattle.std.proofs.Common.{◌∙◌, true≢false}
use Rattle.std.proofs.Math.Bool.{false}
use Rattle.std.proofs.Math.Logic.{⊎_elim}
use Rattle.std.proofs.Math.Option
use Rattle.std.proofs.Math.Option.{Option, none, some, some-injective}
use native.Mathlib.Omega.{arith}
use Rattle.std.proofs.Math.Dec.{T}
use Rattle.std.proofs.Math.ListN.{length, get_or}
use Rattle.laws.specs.Test.{is_some, lt_or_le}
use Rattle.rules.specs.Rotation.{Rotatable, pair_sum, centre, rotatable, centre_of, rotated_by}
use Rattle.rules.specs.Runs.{all_bits}
use Rattle.theorems.specs.Bits.{bit_at}
use Rattle.theorems.specs.RotationRule.{centre-small, centre_common, sum_one, sum-c, rotated_by_lem, rotation_rule}

module _ (P : ℕ) (bits : List ℕ) where
  -- ---- the centre named, by the table's length
  pub centre_of_small : length bits ≤ P → centre_of P bits ≡ 0
  unfolding centre_of
  centre_of_small h = rw (centre-small P bits h)

  pub centre_of_pairs : P < length bits → T (rotatable P bits) → centre_of P bits ≡ pair_sum P bits 0
  unfolding centre_of
  centre_of_pairs l t = rw (centre_common P bits l t)

  -- of a table that no rotation gives
  pub centre_of_none : rotatable P bits ≡ false → centre_of P bits ≡ 0
  unfolding rotatable centre_of
  centre_of_none = by (centre P bits)
    where
      by : (o : Option ℕ) → is_some o ≡ false → Option.get_or o 0 ≡ 0
      by none e = refl
      by (some c) e = absurd (true≢false e)

  -- it is the boot rule's c, and at most 2
  pub centre-named : T (rotatable P bits) → centre P bits ≡ some (centre_of P bits)
  unfolding rotatable centre_of
  centre-named = by (centre P bits)
    where
      by : (o : Option ℕ) → T (is_some o) → o ≡ some (Option.get_or o 0)
      by none t = absurd t
      by (some c) t = refl

  pub centre_most : T (all_bits bits) → T (rotatable P bits) → centre_of P bits ≤ 2
  unfolding pair_sum
  centre_most b t =
      ⊎_elim (λ (l : P < length bits). omega (arith, centre_of_pairs l t, bit_at bits 0 b, bit_at bits (0 + P) b)) (λ (l : length bits ≤ P). omega (arith, centre_of_small l))
      (lt_or_le P (length bits))

-- c is a centre of the table: 0 for at most P bits, else the sum of every pair; the boot rule with it gives back every bit.
pub record IsCentre (P : ℕ) (bits : List ℕ) (c : ℕ) : Type 0 where
  pub small : length bits ≤ P → c ≡ 0
  pub sums : (i : ℕ) → i < length bits - P → pair_sum P bits i ≡ c
  pub gives : (v : ℕ) → v < length bits → rotated_by P bits v c ≡ pos (get_or bits v 0)

pub is_centre : (P : ℕ) (bits : List ℕ) → Rotatable P bits → IsCentre P bits (centre_of P bits)
is_centre P bits r =
    record {
      small = centre_of_small P bits;
      sums = λ i h. sum_one P bits t i h ∙ sym (centre_of_pairs P bits (omega arith) t);
      gives = λ v l. some-injective _ _ (sym (rotated_by_lem P bits v l (centre_of P bits) (centre-named P bits t)) ∙ (rotation_rule P bits).boots r v l);
    }
  where
    t : T (rotatable P bits)
    t = (rotation_rule P bits).decides.1 r

-- Of a table with pairs: the whole number c with which some rotation gives the table is its centre and no other.
pub record OneCentre (P : ℕ) (bits : List ℕ) : Type 0 where
  pub exactly : (c : ℤ) → ((r : Rotatable P bits) × (r.c ≡ c)) ↔ (c ≡ pos (centre_of P bits))
  pub is : IsCentre P bits (centre_of P bits)

pub one-centre : (P : ℕ) (bits : List ℕ) → P < length bits → Rotatable P bits → OneCentre P bits
one-centre P bits l r = record { exactly = λ c. (λ w. sym w.1 ∙ only w.0, λ e. (r, only r ∙ sym e)); is = is_centre P bits r }
  where
    only : (q : Rotatable P bits) → q.c ≡ pos (centre_of P bits)
    only q = sym (sum-c P bits q 0 (omega arith)) ∙ ap pos (sym (centre_of_pairs P bits l ((rotation_rule P bits).decides.1 q)))
