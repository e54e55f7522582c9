-- A cone that fits still fits without its sources of coefficient 0: its table is theirs.
use Rattle.std.specs.Prelude.{◌≡◌, true, List, ℕ, ◌<◌, ◌^◌, pos, nat_abs, ◌-ℤ◌, length, get_or}
use Rattle.std.proofs.Common.{sym, ap₂, ◌∙◌}
use Rattle.laws.specs.Test.{both_left, both_right}
use Rattle.rules.specs.declared.Settings.{Settings}
use Rattle.rules.specs.Composition.{simplify_cone}
use Rattle.rules.specs.Cone.{Cone, values, norm2, is_lut_valid, within_norm, fits}
use Rattle.rules.specs.Network.{LutNode}
use Rattle.rules.specs.NetworkText.{all_different}
use Rattle.rules.specs.Span.{least}
use Rattle.theorems.specs.ConeValues.{values_long}
use Rattle.theorems.specs.SimplifiedCones.{row_in, row_in_lt, simplified_least, simplified_span, simplified_value, simplified_truth}
use Rattle.theorems.proofs.SimplifiedCones.{simplified_norm}
use Rattle.mapped.specs.ConeEncoded.{TableOf, valid_table, table_valid}
use Rattle.mapped.specs.ConeSimplified.{simplified_same, simplified_rows}

module _ (c : Cone) (same : length c.coefficients ≡ length c.support) (apart : all_different (simplify_cone c).support ≡ true) where
  simplified_long : length (values (simplify_cone c)) ≡ length (simplify_cone c).truth
  simplified_long = values_long (simplify_cone c) (unfold simplify_cone in (simplified_same c same)) (simplified_rows c same)

  simplified_table : (P : ℕ) (t : List ℕ) → TableOf P c t → TableOf P (simplify_cone c) t
  simplified_table P t k =
      record {
        long = k.long ∙ sym (simplified_span c same);
        bits = k.bits;
        turns = k.turns;
        agrees = λ i h. by i (rw (simplified_long, simplified_rows c same) at h);
      }
    where
      by : (i : ℕ) → i < 2 ^ length (simplify_cone c).support
          → get_or t (nat_abs (get_or (values (simplify_cone c)) i (pos 0) -ℤ least (values (simplify_cone c)))) 0 ≡ get_or (simplify_cone c).truth i 0
      by i h =
          ap₂ (λ v l. get_or t (nat_abs (v -ℤ l)) 0) (sym (simplified_value c same i h apart)) (simplified_least c same)
          ∙ k.agrees (row_in c i) (row_in_lt c same i h)
          ∙ sym (simplified_truth c same i h)

  pub simplified_fits : (s : Settings) (nodes : List LutNode) → length c.truth ≡ 2 ^ length c.support → fits s nodes c ≡ true → fits s nodes (simplify_cone c) ≡ true
  unfolding fits
  simplified_fits s nodes rows e =
      let r = valid_table s c (values_long c same rows) (both_right (within_norm s (norm2 nodes c)) (is_lut_valid s c) e) in
      rw (
        simplified_norm nodes c,
        both_left (within_norm s (norm2 nodes c)) (is_lut_valid s c) e,
        table_valid s (simplify_cone c) simplified_long (rw (simplified_span c same) r.0) r.1.0 (simplified_table s.p r.1.0 r.1.1),
      )
