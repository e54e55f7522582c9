use Rattle.std.proofs.Common.{refl, rules}
use Rattle.laws.specs.Integer.{read_back}
use Rattle.lut.specs.Forms.{aligning_start, aligning_turn}
use Rattle.lut.proofs.forms.align.Goals as goal

pub loop-k-init : goal.loop-k-init
loop-k-init c = aligning_start _ _ _ c.if-terms-support.false refl

pub loop-k-preserved : goal.loop-k-preserved
loop-k-preserved c =
    aligning_turn _ _ _ _ c.loop-k.invariant c.loop-k-test.true c.requires _ c.in_ok-coefs.ensures _ (read_back c.in_ok-coefs.field-0 (search rules))
