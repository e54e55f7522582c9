-- What the limits of the settings bound (document 01: P from 2 to 16, M to 2P, T from 1 to 10).
use Rattle.std.specs.Prelude.{◌≡◌, true, ◌&&◌, ◌≤◌, ◌*◌}
use borrow.Author.Tests.{leb-true}
use Rattle.std.proofs.Math.Dec.{leb}
use Rattle.laws.specs.Test.{both_left, both_right}
use Rattle.rules.specs.declared.Settings.{Settings}
use Rattle.rules.specs.Builder.{table_limits}
use Rattle.rules.specs.CircuitText.{in_limits}
use Rattle.theorems.specs.BuilderExact.{limits_most}

module _ (s : Settings) (e : in_limits s ≡ true) where
  tables : table_limits s.p s.m ≡ true
  unfolding in_limits
  tables = both_left (table_limits s.p s.m) (leb 1 s.t && leb s.t 10) e

  pub least-p : 2 ≤ s.p
  unfolding table_limits
  least-p =
      leb-true 2 s.p
      (both_left (leb 2 s.p) (leb s.p 16)
      (both_left (leb 2 s.p && leb s.p 16) (leb s.p s.m) (both_left (leb 2 s.p && leb s.p 16 && leb s.p s.m) (leb s.m (2 * s.p)) tables)))

  pub least-m : s.p ≤ s.m
  unfolding table_limits
  least-m =
      leb-true s.p s.m
      (both_right (leb 2 s.p && leb s.p 16) (leb s.p s.m) (both_left (leb 2 s.p && leb s.p 16 && leb s.p s.m) (leb s.m (2 * s.p)) tables))

  pub limits_m : s.m ≤ 32
  limits_m = limits_most s.p s.m tables

  counts : (leb 1 s.t && leb s.t 10) ≡ true
  unfolding in_limits
  counts = both_right (table_limits s.p s.m) (leb 1 s.t && leb s.t 10) e

  pub least_t : 1 ≤ s.t
  least_t = leb-true 1 s.t (both_left (leb 1 s.t) (leb s.t 10) counts)

  pub limits_t : s.t ≤ 10
  limits_t = leb-true s.t 10 (both_right (leb 1 s.t) (leb s.t 10) counts)
