use Rattle.std.proofs.Common.{◌≡◌, Err, rules}
use Rattle.retune.specs.Rest.{left_good, rest_slice, rest_begun, rest_refused, rest_finished}
use Rattle.retune.proofs.rest.map_rest.Goals as goal

pub map_gates-requires-clause-good : goal.map_gates-requires-clause-good
map_gates-requires-clause-good c = left_good c.requires.sound c.requires.place c.requires.reached _ (rest_slice c.args.place _ _ c.deref.ensures.0)

pub returns-in_err-map_gates-clause-is : goal.returns-in_err-map_gates-clause-is
returns-in_err-map_gates-clause-is c =
    let e : c.from_residual.result ≡ Err c.in_err-map_gates.field-0.0 = search rules in
    rest_refused _ c.args.circuit.now c.args.place _ _ _ (rest_slice c.args.place _ _ c.deref.ensures.0) _ c.deref-2.ensures.0 _ _ _ c.map_gates.ensures.is _ _ c.in_err-map_gates.was _ e

pub returns-in_err-map_gates-clause-begun : goal.returns-in_err-map_gates-clause-begun
returns-in_err-map_gates-clause-begun c =
    rest_begun _ c.args.circuit.now c.args.place _ _ _ (rest_slice c.args.place _ _ c.deref.ensures.0) _ c.deref-2.ensures.0 _ c.map_gates.ensures.begun

pub returns-clause-is : goal.returns-clause-is
returns-clause-is c =
    rest_finished _ c.args.circuit.now c.args.place _ _ _ (rest_slice c.args.place _ _ c.deref.ensures.0) _ c.deref-2.ensures.0 _ _ _ c.map_gates.ensures.is _ c.in_ok-map_gates.was _ _ _
    c.finish.ensures

pub returns-clause-begun : goal.returns-clause-begun
returns-clause-begun c =
    rest_begun _ c.args.circuit.now c.args.place _ _ _ (rest_slice c.args.place _ _ c.deref.ensures.0) _ c.deref-2.ensures.0 _ c.map_gates.ensures.begun
