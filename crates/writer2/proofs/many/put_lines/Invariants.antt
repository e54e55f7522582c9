use Rattle.std.proofs.Common.{None}
use Rattle.nodes.specs.Store.{store_of}
use Rattle.lines.specs.Put.{Left}
use Rattle.writer2.specs.Node2.{ordered, lines_left}
use Rattle.writer2.specs.Stream.{stream}
use Rattle.writer2.proofs.many.put_lines.Given as goal

abbrev pub invariant-loop-i : goal.invariant-loop-i
invariant-loop-i l =
    Left (stream l.text.net.p None (ordered l.text.live.now (store_of l.text.store.now) l.order)) l.initial.cursor (lines_left l.text.net.p l.text.live.now (store_of l.text.store.now) l.order l.i-index l.opened) l.cursor
