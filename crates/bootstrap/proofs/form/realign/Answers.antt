use Rattle.std.proofs.Common.{sym, ap, ◌∙◌, ◌<◌, arith, rules, length}
use Rattle.cone.specs.View.{cone_of}
use Rattle.nodes.specs.Store.{store_of}
use Rattle.bootstrap.specs.FormWalk.{walk_on, walk_past, walk_end}
use Rattle.bootstrap.proofs.form.realign.Goals as goal
use Rattle.bootstrap.proofs.form.realign.Goals.{then-is_bootstrap, else-is_bootstrap}

pub loop-i-preserved : goal.loop-i-preserved
loop-i-preserved c =
    let o = c.loop-i in
    let h : o.i < length (store_of c.args.store.now) = omega arith in
    elim c.if-is_bootstrap.branch [
      | then-is_bootstrap w ↦ rw w.best-is (walk_on _ _ _ _ _ o.invariant h _ w.consider-best.ensures.is w.consider-best.ensures.stands)
      | else-is_bootstrap w ↦ rw w.best-is (walk_past _ _ _ _ _ o.invariant h _ c.node.ensures (sym c.is_bootstrap.ensures ∙ w.if-is_bootstrap.false))
    ]

pub returns-clause-is : goal.returns-clause-is
returns-clause-is c =
    ap cone_of c.unwrap_or.ensures ∙ walk_end _ _ _ _ _ c.loop-i.invariant (omega (arith, c.len-i-end.ensures, c.loop-i-test.false)) (search rules)
