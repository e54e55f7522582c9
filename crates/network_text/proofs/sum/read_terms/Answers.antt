use borrow.Author.Tests.{eqb-true, eqb-false}
use Rattle.std.proofs.Common.{◌∙◌, refl, sym, true≢false}
use Rattle.network_text.proofs.Gathered.{kept_start, kept_none, kept_end, kept_shorter, kept_next, kept_spoilt}
use Rattle.network_text.proofs.sum.read_terms.Goals as goal

pub loop-coef-init : goal.loop-coef-init
loop-coef-init c = kept_start _ refl c.new.ensures c.new-2.ensures

pub loop-coef-smaller : goal.loop-coef-smaller
loop-coef-smaller c = let f = c.in-Some in kept_shorter c.loop-coef.invariant f.coef f.digits f.ensures.same

pub loop-coef-preserved : goal.loop-coef-preserved
loop-coef-preserved c = let f = c.in-Some in kept_next c.loop-coef.invariant f.coef f.digits f.ensures.same (c.if-not-takes.ensures.0 refl) f.ensures.digits c.push.ensures

pub returns-then-not-takes-clause-same : goal.returns-then-not-takes-clause-same
returns-then-not-takes-clause-same c = let f = c.in-Some in kept_spoilt c.loop-coef.invariant f.coef f.digits f.ensures.same (λ g. true≢false (sym (c.if-not-takes.ensures.1 g)))

pub returns-then-is_empty-clause-same : goal.returns-then-is_empty-clause-same
returns-then-is_empty-clause-same c = kept_none c.loop-coef.invariant c.in_default.ensures.same (eqb-true _ _ (sym c.is_empty.ensures ∙ c.if-is_empty.true))

pub returns-clause-same : goal.returns-clause-same
returns-clause-same c = kept_end c.loop-coef.invariant c.in_default.ensures.same (eqb-false _ _ (sym c.is_empty.ensures ∙ c.if-is_empty.false))
