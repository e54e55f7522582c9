-- What the proofs of the readers see the bodies of.
use Rattle.rules.specs.Builder
use Rattle.rules.specs.Form
use Rattle.rules.specs.NetworkText
use Rattle.text.specs.Capped
use Rattle.nodes.specs.View
use Rattle.network_text.specs.Lines
use Rattle.network_text.specs.Terms

unfoldable pub readers : Unit {0}
unfolding Builder.table_limits Form.onward Form.number Form.only NetworkText.term NetworkText.good_sum Capped.capped View.term
    Lines.net_rest Lines.boot_rest Lines.good_piece Lines.good_form Terms.spaced_term Terms.cap_coef Terms.lin_rest Terms.good_list Terms.fine
readers = tt
