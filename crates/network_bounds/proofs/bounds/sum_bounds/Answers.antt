use Rattle.network_bounds.proofs.Summing.{summing_start, summing_low, summing_high, low_fits, high_fits, summing_next}
use Rattle.network_bounds.proofs.bounds.sum_bounds.Goals as goal

pub overflow_add-least : goal.overflow_add-least
overflow_add-least c = low_fits _ _ c.requires c.loop-term.invariant c.loop-term-test.true _ (rw c.term-item.is at c.min-least.ensures.value)

pub overflow_add-greatest : goal.overflow_add-greatest
overflow_add-greatest c = high_fits _ _ c.requires c.loop-term.invariant c.loop-term-test.true _ (rw c.term-item.is at c.max-greatest.ensures.value)

pub loop-term-init : goal.loop-term-init
loop-term-init c = summing_start _ _ c.requires

pub loop-term-preserved : goal.loop-term-preserved
loop-term-preserved c = summing_next _ _ c.requires c.loop-term.invariant c.loop-term-test.true _ (rw c.term-item.is at c.min-least.ensures.value) (rw c.term-item.is at c.max-greatest.ensures.value)

pub returns-clause-least : goal.returns-clause-least
returns-clause-least c = summing_low _ _ c.requires c.loop-term.invariant c.loop-term-test.false c.loop-term.auto.term-index-end

pub returns-clause-greatest : goal.returns-clause-greatest
returns-clause-greatest c = summing_high _ _ c.requires c.loop-term.invariant c.loop-term-test.false c.loop-term.auto.term-index-end
