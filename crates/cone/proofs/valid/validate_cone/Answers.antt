use Rattle.std.proofs.Common.{◌≡◌, sym, ap, ◌∙◌, true, List, Err}
use Rattle.rules.specs.declared.Settings.{Settings}
use Rattle.rules.specs.declared.Reason.TheVariants.{OverNorm}
use Rattle.rules.specs.Cone.{Cone, within_norm, norm2, validate_cone}
use Rattle.rules.specs.Network.{LutNode}
use Rattle.rules.specs.NetworkText.{over}
use Rattle.cone.specs.Valid.{validity_of}
use Rattle.cone.proofs.valid.validate_cone.Goals as goal

-- `cone::valid::validate_cone` meets its contract.
over-norm : (s : Settings) (nodes : List LutNode) (c : Cone) → over s.norm (norm2 nodes c) ≡ true → validity_of c (Err OverNorm) ≡ validate_cone s nodes c
unfolding validity_of validate_cone within_norm
over-norm s nodes c e = rw e

pub returns-then-is_over : goal.returns-then-is_over
returns-then-is_over c =
    over-norm c.args.s _ _ (sym (c.is_over.ensures ∙ ap (over c.args.s.norm) c.norm2.ensures) ∙ c.if-is_over.true)
