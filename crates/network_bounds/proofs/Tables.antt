-- A table's bits as they are stored.
use Rattle.std.specs.Prelude.{◌≡◌, refl, ◌+◌, ◌-◌, ◌<◌, ◌≤◌, take, get_or, set}
use Rattle.std.proofs.Common.{sym, ◌∙◌, ap, arith, add-one, take-suc, length-set}
use Rattle.std.proofs.lemmas.List.{take_more_set, take_all}
use Rattle.std.proofs.Math.ListN.{length}
use Prim.Native.Nat.{ℕ, zero, suc}
use mathlib.Core.List.{List, [], ◌∷◌, ◌++◌}
use Rattle.rules.specs.Form.{bits_from}
use Rattle.theorems.specs.Pieces.{from_length}

-- the first i bits
pub record Filled (b table : List ℕ) (i : ℕ) : Type 0 where
  pub long : length table ≡ 32
  pub bits : take i table ≡ take i (bits_from b)

bit_at : (b : List ℕ) (i : ℕ) → get_or (bits_from b) i 0 ≡ get_or b i 0 - 48
unfolding bits_from
bit_at [] i = refl
bit_at (x ∷ b) zero = refl
bit_at (x ∷ b) (suc i) = bit_at b i

pub bits_more : {b table : List ℕ} {i x : ℕ} → Filled b table i → i < length b → length b ≤ 32 → x ≡ get_or b i 0 - 48 → Filled b (set table i x) (i + 1)
bits_more {b} {table} {i} {x} s h k e =
    let q : take (i + 1) (bits_from b) ≡ take i (bits_from b) ++ (get_or (bits_from b) i 0 ∷ []) = rw add-one (take-suc (bits_from b) i 0 (omega (arith, from_length b))) in
    record {
      long = simp length-set s.long;
      bits = rw (take_more_set table i x (omega (arith, s.long)), s.bits, e) (sym (q ∙ ap (λ y. take i (bits_from b) ++ (y ∷ [])) (bit_at b i)));
    }

pub bits_done : (b table : List ℕ) (i : ℕ) → Filled b table i → length b ≤ i → i ≤ length b → take (length b) table ≡ bits_from b
bits_done b table i s h k =
    let e : length b ≡ i = omega arith in
    rw (e, s.bits) (take_all i (bits_from b) (omega (arith, from_length b)))
