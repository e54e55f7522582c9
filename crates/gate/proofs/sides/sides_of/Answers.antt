use Rattle.std.proofs.Common.{◌≡◌, sym, ap₂, ◌∙◌, Bool}
use Rattle.rules.specs.Cone.{less, cone_order_key}
use Rattle.cone.specs.View.{cone_of}
use Rattle.nodes.specs.Store.{store_of}
use Rattle.gate.specs.GateSteps.{sides_switched, sides_kept, same_switched, same_kept}
use Rattle.gate.proofs.sides.sides_of.Goals as goal
use Rattle.gate.proofs.sides.sides_of.Goals.{After-is_less}

-- `gate::sides::sides_of` meets its contract.
test : (c : After-is_less) → let a = c.args in less (cone_order_key (store_of a.store.now) (cone_of a.left)) (cone_order_key (store_of a.store.now) (cone_of a.right)) ≡ c.is_less.result
test c = sym (c.is_less.ensures ∙ ap₂ {C = Bool} less c.cone_order_key.ensures c.cone_order_key-2.ensures)

pub returns-then-is_less : goal.returns-then-is_less
returns-then-is_less c = let a = c.args in let w = c.switch_inputs in record {
  is = sides_switched a.left a.right a.gate _ _ (test (goal.at.returns-then-is_less c).After-is_less ∙ c.if-is_less.true) (w.ensures.is _);
  same = same_switched a.left a.right a.gate _ w.ensures.is w.ensures.places;
}

pub returns-else-is_less : goal.returns-else-is_less
returns-else-is_less c = let a = c.args in record {
  is = sides_kept a.left a.right a.gate _ (test (goal.at.returns-else-is_less c).After-is_less ∙ c.if-is_less.false);
  same = same_kept a.left a.right a.gate;
}
