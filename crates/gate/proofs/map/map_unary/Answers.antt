use Rattle.std.proofs.Common.{◌≡◌, sym, ap, ◌∙◌, arith, rules, Err, length}
use Rattle.rules.specs.Mapper as M
use Rattle.rules.specs.Cone as C
use Rattle.cone.specs.Valid.{validity_of}
use Rattle.cone.specs.View.{cone_of, truth-bit}
use Rattle.cone.specs.Sources.{Stands, constant_stands}
use Rattle.nodes.specs.Store.{store_of}
use Rattle.rules.specs.Refusal.{reason_number}
use Rattle.gate.specs.View.{mapped_of}
use Rattle.gate.specs.GateSteps.{unary_equal, unary_judged, through_stands}
use Rattle.gate.proofs.map.map_unary.Goals as goal
use Rattle.gate.proofs.map.map_unary.Goals.{After-apply_unary-d}

-- `gate::map::map_unary` meets its contract.
stands : (c : After-apply_unary-d) → Stands (length (store_of c.args.store.now)) c.apply_unary-d.result
stands c = let d = c.apply_unary-d in through_stands _ _ _ _ d.ensures c.requires.0

pub constant-requires : goal.constant-requires
constant-requires c = let d = c.apply_unary-d in omega (arith, c.first_truth.ensures, truth-bit d.result 0)

pub returns-then-all_equal : goal.returns-then-all_equal
returns-then-all_equal c = let d = c.apply_unary-d in let k = c.constant in record {
  is = c.unchanged.ensures.is _ ∙ ap (M.unchanged _) (k.ensures ∙ ap C.constant c.first_truth.ensures) ∙ unary_equal c.args.s _ (cone_of c.args.c) (cone_of d.result) _ d.ensures (sym c.all_equal.ensures ∙ c.if-all_equal.true);
  stands = c.unchanged.ensures.stands _ _ (constant_stands _ _ _ k.ensures);
}

pub validate_cone-requires : goal.validate_cone-requires
validate_cone-requires c = (stands (goal.at.validate_cone-requires c).After-apply_unary-d).below

pub returns-in_err-validate_cone-clause-is : goal.returns-in_err-validate_cone-clause-is
unfolding validity_of mapped_of
returns-in_err-validate_cone-clause-is c =
    let d = c.apply_unary-d in
    let e : c.from_residual.result ≡ Err c.in_err-validate_cone.field-0.0 = search rules in
    ap (mapped_of c.args.store.now) e
    ∙ unary_judged c.args.s _ (cone_of c.args.c) (cone_of d.result) _ d.ensures (C.err (reason_number c.in_err-validate_cone.field-0.0)) (sym c.all_equal.ensures ∙ c.if-all_equal.false) c.in_err-validate_cone.ensures

pub returns : goal.returns
unfolding validity_of
returns c =
    let d = c.apply_unary-d in
    record {
      is = c.unchanged-2.ensures.is _ ∙ unary_judged c.args.s _ (cone_of c.args.c) (cone_of d.result) _ d.ensures (C.ok (cone_of d.result)) (sym c.all_equal.ensures ∙ c.if-all_equal.false) c.in_ok-validate_cone.ensures;
      stands = c.unchanged-2.ensures.stands _ _ (stands (goal.at.returns c).After-apply_unary-d);
    }
