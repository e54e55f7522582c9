-- Bits tested one by one, and what a run makes of the test.
use Rattle.std.specs.Prelude.{◌≡◌, refl, Bool, true, false, not, List, [], ◌∷◌, ℕ, zero, suc, ◌<◌, ◌≤◌, IsTrue, ◌↔◌, All, length}
use Rattle.std.proofs.Common.{sym, ap, ◌∙◌, not-suc-le-zero, le_of_suc-le-suc, arith}
use Rattle.std.proofs.Math.Option.{Option}
use Rattle.std.proofs.lemmas.Bool.{leb-true}
use borrow.Author.Tests.{le-leb, lt-ltb, eq-eqb, not-false}
use Rattle.laws.specs.Test.{both_left, both_right, T-not_is, T-is, not_both}
use Rattle.rules.specs.Runs.{NotBits, NoRoom, ran, all_bits, bits_for, run_on}

-- as many as there are inputs, tested one by one
each_bit : (l : List ℕ) → All (λ b. b ≤ 1) l → all_bits l ≡ true
unfolding all_bits
each_bit [] h = refl
each_bit (b ∷ l) h = rw (le-leb b 1 (h 0 0 (omega arith)), each_bit l (λ k d i. h (suc k) d (omega arith)))

bits_each : (l : List ℕ) → all_bits l ≡ true → All (λ b. b ≤ 1) l
unfolding all_bits
bits_each [] e k d h = absurd (not-suc-le-zero h)
bits_each (b ∷ l) e zero d h = leb-true b 1 (both_left _ (all_bits l) e)
bits_each (b ∷ l) e (suc k) d h = bits_each l (both_right _ (all_bits l) e) k d (le_of_suc-le-suc h)

pub all_tested : (n : ℕ) (l : List ℕ) (r : Bool) → length l ≡ n → (IsTrue r ↔ All (λ b. b ≤ 1) l) → r ≡ bits_for n l
unfolding bits_for
all_tested n l true e t = rw (eq-eqb (length l) n e, each_bit l (t.0 refl))
all_tested n l false e t = rw (eq-eqb (length l) n e) (sym (T-not_is (all_bits l) (λ b. not_both false (t.1 (bits_each l (T-is (all_bits l) b))) refl)))

-- ---- a run over them, whatever gives its values
module _ {A : Type 0} (n k : ℕ) (bits : List ℕ) (buffer : List A) (values : Option (List A)) {b : Bool} (e : b ≡ bits_for n bits) where
  pub bad_bits : not b ≡ true → ran NotBits buffer ≡ run_on n k bits buffer values
  unfolding run_on
  bad_bits h = sym (rw (ap not (sym e) ∙ h))

  pub short_buffer : not b ≡ false → length buffer < k → ran NoRoom buffer ≡ run_on n k bits buffer values
  unfolding run_on
  short_buffer h l = sym (rw (sym e ∙ not-false b h, lt-ltb (length buffer) k l))
