-- Numbers are kept up to 65536: that is enough to judge P, M and T.
use Rattle.std.specs.Prelude.{◌≡◌, ◌&&◌, ℕ, ◌≤◌, min, leb}
use Rattle.std.proofs.Common.{arith}
use Rattle.std.proofs.lemmas.Bool.Decides.{nat_tests}
use Rattle.rules.specs.Builder.{table_limits}

pub cap_small : (n : ℕ) → n ≤ 65536 → min 65536 n ≡ n
cap_small n h = omega arith

pub cap_table : (p m : ℕ) → table_limits (min 65536 p) (min 65536 m) ≡ table_limits p m
unfolding table_limits
cap_table p m = grind (arith, nat_tests)

pub cap_ten : (t : ℕ) → (leb 1 (min 65536 t) && leb (min 65536 t) 10) ≡ (leb 1 t && leb t 10)
cap_ten t = grind (arith, nat_tests)
