use Rattle.rules.specs.Writing.{nodes_text}
use Rattle.nodes.specs.Store.{store_of}
use Rattle.lines.specs.Put.{Left}
use Rattle.writer.specs.Live.{live_nodes, lines_left}
use Rattle.writer.proofs.node_lines.put_nodes.Given as goal

abbrev pub invariant-loop-i : goal.invariant-loop-i
invariant-loop-i l = Left (nodes_text (live_nodes l.live l.store)) l.initial.cursor (lines_left l.live (store_of l.store) l.i) l.cursor
