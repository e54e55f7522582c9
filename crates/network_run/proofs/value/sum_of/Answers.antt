use Rattle.std.proofs.Common.{◌≡◌, ◌≤◌, ◌∙◌, ap, arith, ℤ, pos, nat_abs, get_or, to_z, of_z, w8, w64, to_z-of_z}
use Rattle.laws.specs.Integer.{fits_abs}
use Rattle.nodes.specs.declared.node.Term.{Term}
use Rattle.nodes.specs.Seen.{term_small}
use Rattle.network_run.specs.Value.{source_small, sum_next, product_fits, sum_small, sum_fits}
use Rattle.network_run.proofs.value.sum_of.Goals as goal
use Rattle.network_run.proofs.value.sum_of.Goals.{After-get}

module _ (c : After-get) where
  abbrev term : Term
  term = get_or c.args.terms.now c.loop-term.term-index c.term-item.result

  abbrev value : ℤ
  value = get_or c.args.values.now term.node (pos 0)

  near : nat_abs term.coef ≤ 31
  near = term_small c.args.terms.now c.loop-term.term-index _ c.loop-term-test.true _ c.requires.fine

  small : nat_abs value ≤ 255
  small = source_small c.args.values.now c.args.terms.now c.loop-term.term-index _ c.loop-term-test.true c.requires.small

  -- what the machine reads
  coef_is : c.term-item.result.coef ≡ term.coef
  coef_is = ap (λ (t : Term). t.coef) c.term-item.is

  node_is : c.get.result ≡ term.node
  node_is = c.get.ensures ∙ ap (λ (t : Term). t.node) c.term-item.is

  coef_byte : to_z w8 (of_z w8 term.coef) ≡ term.coef
  coef_byte = to_z-of_z {w = w8} (fits_abs term.coef (omega (arith, near)))

  coef_word : to_z w64 (of_z w64 term.coef) ≡ term.coef
  coef_word = to_z-of_z {w = w64} (fits_abs term.coef (omega (arith, near)))

  value_word : to_z w64 (of_z w64 value) ≡ value
  value_word = to_z-of_z {w = w64} (fits_abs value (omega (arith, small)))

pub overflow_mul-sum : goal.overflow_mul-sum
overflow_mul-sum c =
    let l = (goal.at.overflow_mul-sum c).After-get in
    simp (coef_is l, node_is l, coef_byte l, coef_word l, value_word l) (product_fits (term l).coef (value l) (near l) (small l))

pub overflow_add-sum : goal.overflow_add-sum
overflow_add-sum c =
    let l = (goal.at.overflow_add-sum c).After-get in
    simp (coef_is l, node_is l, coef_byte l, coef_word l, value_word l, to_z-of_z (product_fits (term l).coef (value l) (near l) (small l)))
    (sum_fits (term l).coef (value l) (near l) (small l) (to_z w64 l.loop-term.sum-bits) l.loop-term.term-index l.loop-term.invariant.0 (omega (arith, l.loop-term-test.true, l.requires.few)))

pub loop-term-preserved : goal.loop-term-preserved
loop-term-preserved c =
    let l = (goal.at.loop-term-preserved c).After-get in
    let o = l.loop-term in
    let fits = sum_fits (term l).coef (value l) (near l) (small l) (to_z w64 o.sum-bits) o.term-index o.invariant.0 (omega (arith, l.loop-term-test.true, l.requires.few)) in
    simp (coef_is l, node_is l, coef_byte l, coef_word l, value_word l, to_z-of_z (product_fits (term l).coef (value l) (near l) (small l)), to_z-of_z fits)
    (sum_small (term l).coef (value l) (near l) (small l) (to_z w64 o.sum-bits) o.term-index o.invariant.0, o.invariant.1 ∙ sum_next l.args.values.now l.args.terms.now o.term-index _ l.loop-term-test.true _)
