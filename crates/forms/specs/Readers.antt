-- What the proofs of the readers see the bodies of.
use Rattle.rules.specs.Form
use Rattle.text.specs.Capped
use Rattle.forms.specs.Forms
use Rattle.forms.specs.Signed
use Rattle.forms.specs.Weight
use Rattle.forms.specs.Wire

unfoldable pub readers : Unit {0}
unfolding Form.onward Form.either Form.wire Form.norm Form.up_to4096 Form.below Form.signed Form.from2_to64 Form.weight Form.in_line Form.out_line
    Capped.capped Forms.cap_output Signed.negative Signed.cap_signed Weight.written_weight Wire.node_wire Wire.cap_wire
readers = tt
