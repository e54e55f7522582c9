use Rattle.std.specs.Prelude.{map}
use Rattle.rules.specs.Writing.{terms_text}
use Rattle.nodes.specs.View.{terms_seen}
use Rattle.lines.specs.Put.{Left}
use Rattle.writer.specs.Live.{new_term, terms_left}
use Rattle.writer.proofs.node_lines.put_terms.Given as goal

abbrev pub invariant-loop-term : goal.invariant-loop-term
invariant-loop-term l =
    Left (terms_text (map (new_term l.live) (terms_seen l.terms))) l.initial.cursor (terms_left l.live l.terms l.term-index) l.cursor
