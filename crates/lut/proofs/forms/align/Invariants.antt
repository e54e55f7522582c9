use Rattle.nodes.specs.View.{terms_seen}
use Rattle.lut.specs.Forms.{Aligning}
use Rattle.lut.proofs.forms.align.Given as goal

-- `lut::forms::align` meets its contract: the sources before k have their coefficients.
abbrev pub invariant-loop-k : goal.invariant-loop-k
invariant-loop-k l = Aligning l.support (terms_seen l.terms) l.k l.coefs
