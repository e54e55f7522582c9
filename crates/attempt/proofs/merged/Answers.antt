use Rattle.std.proofs.Common.{◌≡◌, ap, ap₂, ◌∙◌, arith, rules, take}
use Rattle.laws.specs.Integer.{read_back}
use Rattle.rules.specs.Composition.{simplify_cone}
use Rattle.cone.specs.View.{cone_of}
use Rattle.compose.specs.Basis.{lefts, rights}
use Rattle.scale_pair.specs.Pair.{merged}
use Rattle.attempt.specs.Merged.{made_is, made_fits}
use Rattle.attempt.proofs.merged.Goals as goal
use Rattle.attempt.proofs.merged.Goals.{After-prepare_coefficients-coefs}

-- `attempt::merged` meets its contract: the coefficients are those of the pair.
coefs_are : (c : After-prepare_coefficients-coefs) → let b = c.args.basis.now in take b.n c.prepare_coefficients-coefs.result ≡ merged c.args.best.rank.a c.args.best.rank.b (lefts b) (rights b)
coefs_are c =
    c.prepare_coefficients-coefs.ensures
    ∙ ap₂ (λ x y. merged x y (lefts c.args.basis.now) (rights c.args.basis.now)) (read_back c.args.best.rank.a (omega arith)) (read_back c.args.best.rank.b (omega arith))

pub invariant_of-simplify_cone : goal.invariant_of-simplify_cone
invariant_of-simplify_cone c =
    let p = (goal.at.invariant_of-simplify_cone c).After-prepare_coefficients-coefs in
    let f = made_fits c.args.basis.now c.args.best c.requires c.prepare_coefficients-coefs.result (coefs_are p) in
    record { support_long = search rules; coefs_long = search rules; entries_long = search rules; few = f.few; different = f.form.different; near = f.form.near; narrow = f.form.narrow; held = f.held }

pub returns : goal.returns
unfolding cone_of
returns c =
    let p = (goal.at.returns c).After-prepare_coefficients-coefs in
    c.simplify_cone.ensures ∙ ap simplify_cone (made_is c.args.basis.now c.args.best c.requires c.prepare_coefficients-coefs.result (coefs_are p))
