use Rattle.std.proofs.Common.{◌≡◌, ◌<◌, ◌^◌, nat_abs}
use Rattle.laws.specs.Gcd.{gcd}
use Rattle.scale.proofs.gcd_i64.Given as goal

-- `scale::gcd_i64` meets its contract. A turn of the loop is a step of Euclid's algorithm on the absolute values, which the invariant keeps in range.
abbrev pub invariant-loop-r : goal.invariant-loop-r
invariant-loop-r l = record {
  left_small : nat_abs l.l < 2 ^ 63;
  right_small : nat_abs l.r < 2 ^ 63;
  same_gcd : gcd (nat_abs l.l) (nat_abs l.r) ≡ gcd (nat_abs l.left) (nat_abs l.right);
}

abbrev pub decreases-loop-r : goal.decreases-loop-r
decreases-loop-r l = nat_abs l.r
