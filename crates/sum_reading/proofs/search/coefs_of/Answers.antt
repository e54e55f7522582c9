use Rattle.std.proofs.Common.{[], ◌∷◌, ◌++◌, ◌+◌, ◌∙◌, ◌≡◌, arith, ap, get_or, nat_abs, ◌≤◌, w8, w64, to_z-of_z}
use Rattle.laws.specs.Integer.{fits_abs}
use Rattle.nodes.specs.declared.node.Term.{Term}
use Rattle.sum_reading.specs.Nodes.{coefs_next}
use Rattle.sum_reading.proofs.search.coefs_of.Goals as goal

pub push-requires : goal.push-requires
push-requires c = (omega arith, omega (arith, c.loop-term.invariant.1, c.loop-term-test.true, c.requires.few))

pub loop-term-preserved : goal.loop-term-preserved
loop-term-preserved c =
    let o = c.loop-term in
    let t : Term = c.term-item.result in
    let read : t.coef ≡ (get_or c.args.terms.now o.term-index t).coef = ap (λ (u : Term). u.coef) c.term-item.is in
    let near : nat_abs (get_or c.args.terms.now o.term-index t).coef ≤ 31 = c.requires.small o.term-index t c.loop-term-test.true in
    let byte = to_z-of_z {w = w8} (fits_abs (get_or c.args.terms.now o.term-index t).coef (omega (arith, near))) in
    let word = to_z-of_z {w = w64} (fits_abs (get_or c.args.terms.now o.term-index t).coef (omega (arith, near))) in (
      simp (read, byte, word) at c.push.ensures.items ∙ ap (λ l. l ++ ((get_or c.args.terms.now o.term-index t).coef ∷ [])) o.invariant.0 ∙ coefs_next c.args.terms.now o.term-index t c.loop-term-test.true,
      c.push.ensures.len ∙ ap (λ n. n + 1) o.invariant.1,
    )
