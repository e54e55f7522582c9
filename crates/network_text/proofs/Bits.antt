-- A table's bits, as they are read.
use Rattle.std.specs.Prelude.{◌≡◌, Bool, true, false, List, ℕ, ◌≤◌, T, leb, length, drop}
use Rattle.std.proofs.Math.Path.{refl}
use Rattle.std.proofs.Common.{sym, subst, arith, leb-true}
use Rattle.std.proofs.Math.Option.{none, some}
use Rattle.laws.specs.Test.{if◌then◌otherwise◌}
use Rattle.rules.specs.Form.{give, run, run_of, bits, is_bits, is_bit_byte, bits_from}
use Rattle.rules.specs.Runs.{all_bits}
use Rattle.theorems.specs.LineBits.{Gives, onward_gives, bits_gives}
use Rattle.theorems.specs.Pieces.{from_length}

-- One or more.
abbrev SomeBits : List ℕ → Type 0
SomeBits w = 1 ≤ length w

some_gives : (l : List ℕ) → Gives SomeBits (bits l)
unfolding bits run_of is_bits Gives
some_gives l = onward_gives SomeBits SomeBits (run_of is_bit_byte is_bits l) _ (by (run is_bit_byte l) (leb 1 (length (run is_bit_byte l))) refl) (λ w s h. rw (from_length w) h)
  where
    by : (w : List ℕ) (t : Bool) → leb 1 (length w) ≡ t → Gives SomeBits (if t then give w (drop (length w) l) otherwise none)
    by w true e = leb-true 1 (length w) e
    by w false e = tt

-- What was read as bits is bits, one or more.
module _ (l x b : List ℕ) (h : some (record { value = bits_from b; rest = x }) ≡ bits l) where
  pub some_bits : 1 ≤ length b
  unfolding Gives
  some_bits = let n : 1 ≤ length (bits_from b) = subst (λ o. Gives SomeBits o) (sym h) (some_gives l) in omega (arith, from_length b)

  pub each_bit : T (all_bits (bits_from b))
  unfolding Gives
  each_bit = subst (λ o. Gives (λ v. T (all_bits v)) o) (sym h) (bits_gives l)

pub ruleset table_bits = (some_bits, each_bit)
