-- The truth of a gate on two cones, row by row.
use Rattle.std.specs.Prelude.{◌≡◌, refl, true, List, ◌++◌, ℕ, ◌+◌, ◌-◌, ◌*◌, ◌/◌, ◌^◌, ◌<◌, get_or}
use Rattle.std.proofs.Common.{ap, ◌∙◌, arith, length-append}
use Rattle.std.proofs.Math.ListN.{length}
use Rattle.laws.specs.Select.{select}
use Rattle.laws.specs.Digits.{digits}
use Rattle.laws.specs.Tabulate.{tabulate-at, tabulate-length}
use Rattle.rules.specs.Cone.{Cone, cone_bit}
use Rattle.rules.specs.NetworkText.{all_different}
use Rattle.rules.specs.Composition.{union_support, gate_truth, assigned}
use Rattle.theorems.specs.SourceRows.{row_over, over_rows_are}
use Rattle.support.specs.Rows.{row_over_own}
use Rattle.support.specs.Support.{is_new, union_is}

-- a cone's bit at a row over a support
cone_bit-at : (U : List ℕ) (c : Cone) (i : ℕ) → cone_bit (assigned U (digits (length U) i)) c ≡ get_or c.truth (row_over U c.support i) 0
unfolding cone_bit row_over
cone_bit-at U c i = refl

pub gate_truth-length : (U : List ℕ) (left right : Cone) (gate : List ℕ) → length (gate_truth U left right gate) ≡ 2 ^ length U
unfolding gate_truth
gate_truth-length U left right gate = rw over_rows_are (tabulate-length (2 ^ length U) _)

own_row : (ls new : List ℕ) (i : ℕ) → all_different ls ≡ true → i < 2 ^ length (ls ++ new) → row_over (ls ++ new) ls i ≡ i / 2 ^ (length (ls ++ new) - length ls)
own_row ls new i d h =
    row_over_own ls new i d (rw length-append at h) ∙ ap (λ k. i / 2 ^ k) (omega (arith, length-append ls new))

module _ (left right : Cone) (gate : List ℕ) (i : ℕ) (different : all_different left.support ≡ true) where
  -- over the union, the left row is the quotient by the rows of the new sources
  pub left_row : (U : List ℕ) → U ≡ union_support left.support right.support → i < 2 ^ length U
      → row_over U left.support i ≡ i / 2 ^ (length U - length left.support)
  left_row U e h =
      let f : U ≡ left.support ++ select (is_new left.support) right.support = e ∙ union_is left.support right.support in
      rw f (own_row left.support (select (is_new left.support) right.support) i different (rw f at h))

  pub gate_truth-at : (U : List ℕ) → U ≡ union_support left.support right.support → i < 2 ^ length U
      → get_or (gate_truth U left right gate) i 0
      ≡ get_or gate (2 * get_or left.truth (i / 2 ^ (length U - length left.support)) 0 + get_or right.truth (row_over U right.support i) 0) 0
  unfolding gate_truth
  gate_truth-at U e h =
      rw (over_rows_are U, tabulate-at {A = ℕ} (2 ^ length U) _ i 0 h, cone_bit-at U left i, cone_bit-at U right i, left_row U e h)
