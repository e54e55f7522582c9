use Rattle.cone.specs.Sources.{constant_stands}
use Rattle.gates.specs.Wired.{node_cone, node_stands, constant_cone}
use Rattle.gates.proofs.wire_cone.Goals as goal

pub returns-in-Node-clause-is : goal.returns-in-Node-clause-is
returns-in-Node-clause-is c = node_cone _ _ c.deref.ensures.0 _ _ _ c.in-Node.is c.requires c.index-deref-id.is

pub returns-in-Node-clause-stands : goal.returns-in-Node-clause-stands
returns-in-Node-clause-stands c = node_stands _ _ c.deref.ensures.0 _ _ _ c.in-Node.is c.requires c.index-deref-id.is

pub returns-in-Const-clause-is : goal.returns-in-Const-clause-is
returns-in-Const-clause-is c = constant_cone _ _ _ _ c.in-Const.is c.constant.ensures

pub returns-in-Const-clause-stands : goal.returns-in-Const-clause-stands
returns-in-Const-clause-stands c = λ store n w. constant_stands _ _ c.in-Const.b c.constant.ensures
