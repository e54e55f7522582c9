use Rattle.std.proofs.Common.{◌≡◌, ◌<◌, ◌^◌, pos, nat_abs, drop}
use Rattle.rules.specs.Scale.{gcd_from}
use Rattle.scale.proofs.common_divisor.Given as goal

-- `scale::common_divisor` meets its contract: the gcd so far, taken on with the coefficients that are left, is that of all.
abbrev pub invariant-loop-c : goal.invariant-loop-c
invariant-loop-c l = record {
  small : nat_abs l.g < 2 ^ 63;
  not_negative : l.g ≡ pos (nat_abs l.g);
  same_gcd : gcd_from (nat_abs l.g) (drop l.c-index l.coefs) ≡ gcd_from 0 l.coefs;
}
