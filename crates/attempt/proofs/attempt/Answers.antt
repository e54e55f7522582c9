use Rattle.std.proofs.Common.{◌≡◌, ◌∙◌, ap₂, arith, length}
use Rattle.rules.specs.Composition.{union_support}
use Rattle.cone.specs.View.{cone_of}
use Rattle.nodes.specs.Store.{store_of}
use Rattle.attempt.specs.Pair.{compose-over, compose_within}
use Rattle.theorems.specs.SettingLimits.{limits_t}
use Rattle.attempt.proofs.attempt.Goals as goal
use Rattle.attempt.proofs.attempt.Goals.{After-union_support_size}

-- `attempt::attempt` meets its contract.
size : (c : After-union_support_size) → c.union_support_size.result ≡ length (union_support (cone_of c.args.left).support (cone_of c.args.right).support)
size c = c.union_support_size.ensures ∙ ap₂ (λ x y. length (union_support x y)) c.sources.ensures.are c.sources-2.ensures.are

pub overflow_add-s : goal.overflow_add-s
overflow_add-s c = omega (arith, limits_t c.args.s.settings c.args.s.limits)

pub returns-then-s-union_support_size-clause-is : goal.returns-then-s-union_support_size-clause-is
returns-then-s-union_support_size-clause-is c =
    let A = c.args in
    compose-over A.s.settings (store_of A.store.now) (cone_of A.left) (cone_of A.right) A.gate (omega (arith, c.if-s-union_support_size.true, size (goal.at.returns-then-s-union_support_size-clause-is c).After-union_support_size))

pub basis_of-requires : goal.basis_of-requires
basis_of-requires c =
    omega (arith, c.if-s-union_support_size.false, size (goal.at.basis_of-requires c).After-union_support_size, limits_t c.args.s.settings c.args.s.limits)

pub returns-clause-is : goal.returns-clause-is
returns-clause-is c =
    let A = c.args in
    c.composed.ensures.is
    ∙ compose_within A.s.settings (store_of A.store.now) (cone_of A.left) (cone_of A.right) A.gate (omega (arith, c.if-s-union_support_size.false, size (goal.at.returns-clause-is c).After-union_support_size))
