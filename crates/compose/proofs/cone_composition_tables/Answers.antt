use Rattle.std.proofs.Common.{◌≡◌, sym, ap, ◌∙◌, List, ℕ, ◌≤◌, arith, ℤ, length, pow_mono}
use lib.ListN.{length-map}
use Rattle.rules.specs.Cone as rules
use Rattle.laws.specs.Over.{over, over-over}
use Rattle.rules.specs.Cone.{linear_table}
use Rattle.rules.specs.Composition.{gate_truth}
use Rattle.scale.specs.Limits.{Within}
use Rattle.theorems.specs.ConeValues.{linear_table-length}
use Rattle.theorems.specs.Unions.{right_le}
use Rattle.cone.specs.declared.Cone.{Cone}
use Rattle.cone.specs.View.{cone_of, sources_different, small, rows_are, view_sources, view_coefs}
use Rattle.support.specs.Support.{union_length}
use Rattle.compose.specs.Basis.{IsBasis, coefficients_over, coefficients_over_within}
use Rattle.compose.proofs.cone_composition_tables.Goals as goal
use Rattle.compose.proofs.cone_composition_tables.Goals.{Start}

-- `compose::cone_composition_tables` meets its contract, from what its calls ensure.
-- a cone over the union U of n sources, and its coefficients over them
module _ (U : List ℕ) (k : Cone) (n : ℕ) (count : n ≡ length U) (within : k.n ≤ n) (cs : List ℤ) (are : cs ≡ coefficients_over U (cone_of k)) where
  cs_long : length cs ≡ n
  unfolding coefficients_over
  cs_long = ap length are ∙ length-map U _ ∙ sym count

  small_over : Within 1984 cs
  small_over i = rw are (omega (arith, coefficients_over_within 31 U (cone_of k) (small k) i))

  -- a table of the cone's own values, written over by its values over the union
  written : (t x d : List ℤ) → x ≡ over (rules.values (cone_of k)) d → t ≡ over (linear_table cs) x → t ≡ over (linear_table (coefficients_over U (cone_of k))) d
  written t x d f g =
      g ∙ ap (over (linear_table cs)) f
      ∙ over-over (rules.values (cone_of k)) (linear_table cs) d (rw (rows_are k, linear_table-length cs, view_coefs k, cs_long) (pow_mono within))
      ∙ ap (λ l. over (linear_table l) d) are

is_basis : (c : Start) → IsBasis (cone_of c.args.left) (cone_of c.args.right) c.args.basis.now
is_basis c = c.requires.0

left_in : (c : Start) → c.args.left.n ≤ c.args.basis.now.n
left_in c = omega (arith, (is_basis c).count, union_length (cone_of c.args.left).support (cone_of c.args.right).support, view_sources c.args.left)

right_in : (c : Start) → c.args.right.n ≤ c.args.basis.now.n
right_in c = omega (arith, (is_basis c).count, right_le (cone_of c.args.left).support (cone_of c.args.right).support (sources_different c.args.right), view_sources c.args.right)

pub linear_table-requires : goal.linear_table-requires
linear_table-requires c =
    let s = (goal.at.linear_table-requires c).Start in
    let b = is_basis s in
    let lefts = c.left.ensures.are ∙ b.left_is in
    let n = cs_long _ c.args.left _ b.count (left_in s) _ lefts in
    (omega (arith, n, c.args.basis.now.few), (rw n (omega (arith, c.requires.1.x, c.gate_truths.auto.xs)), small_over _ c.args.left _ b.count (left_in s) _ lefts))

pub linear_table-requires-2 : goal.linear_table-requires-2
linear_table-requires-2 c =
    let s = (goal.at.linear_table-requires-2 c).Start in
    let b = is_basis s in
    let rights = c.right.ensures.are ∙ b.right_is in
    let n = cs_long _ c.args.right _ b.count (right_in s) _ rights in
    (omega (arith, n, c.args.basis.now.few), (rw n (omega (arith, c.requires.1.y, c.gate_truths.auto.ys)), small_over _ c.args.right _ b.count (right_in s) _ rights))

pub returns : goal.returns
returns c =
    let s = (goal.at.returns c).Start in
    let b = is_basis s in
    record {
      x = written _ c.args.left _ b.count (left_in s) _ (c.left.ensures.are ∙ b.left_is) _ _ _ c.gate_truths.ensures.0 c.linear_table.ensures;
      y = written _ c.args.right _ b.count (right_in s) _ (c.right.ensures.are ∙ b.right_is) _ _ _ c.gate_truths.ensures.1.0 c.linear_table-2.ensures;
      t = c.gate_truths.ensures.1.1 ∙ ap (λ U. over (gate_truth U (cone_of c.args.left) (cone_of c.args.right) c.args.gate) c.args.truth.now) (c.sources.ensures.are ∙ b.sources);
    }
