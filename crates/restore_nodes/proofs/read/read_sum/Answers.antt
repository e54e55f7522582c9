use Rattle.std.proofs.Common.{refl, arith}
use Rattle.restore_nodes.specs.Sums.{summing_start, term_read, summing_turn, summed_good, summed_fine, summed_same}
use Rattle.restore_nodes.proofs.read.read_sum.Goals as goal

pub loop-k-init : goal.loop-k-init
loop-k-init c = summing_start c.args.count c.args.cell.now _ c.in_ok-constant.constant refl c.new.ensures c.in_ok-constant.ensures.sound c.in_ok-constant.ensures.complete

pub returns-in_err-term-clause-complete : goal.returns-in_err-term-clause-complete
returns-in_err-term-clause-complete c =
    λ z ts g e. absurd (term_read c.args.count c.args.cell.now c.loop-k.k c.loop-k-test.true c.in_err-term.ensures.complete z ts g e)

pub loop-k-preserved : goal.loop-k-preserved
loop-k-preserved c =
    summing_turn c.args.count c.args.cell.now c.loop-k.k c.loop-k.sum c.loop-k.invariant c.in_ok-term.term _ refl c.push.ensures c.in_ok-term.ensures.sound c.in_ok-term.ensures.complete
    c.loop-k-test.true

pub of_terms-requires : goal.of_terms-requires
of_terms-requires c =
    summed_good c.args.count c.args.cell.now c.loop-k.k c.loop-k.sum c.loop-k.invariant c.loop-k-test.false c.loop-k.auto.k-end c.if-length-gt11.false (omega (arith, c.requires.1))

pub returns-clause-sound : goal.returns-clause-sound
returns-clause-sound c =
    summed_fine c.args.count c.args.cell.now c.loop-k.k c.loop-k.sum c.loop-k.invariant c.loop-k-test.false c.loop-k.auto.k-end c.if-length-gt11.false _ c.of_terms.ensures

pub returns-clause-complete : goal.returns-clause-complete
returns-clause-complete c =
    summed_same c.args.count c.args.cell.now c.loop-k.k c.loop-k.sum c.loop-k.invariant c.loop-k-test.false c.loop-k.auto.k-end c.if-length-gt11.false _ c.of_terms.ensures
