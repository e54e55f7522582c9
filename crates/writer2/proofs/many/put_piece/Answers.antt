use Rattle.lines.specs.Put.{put_both, put_text}
use Rattle.writer.specs.Live.{boot_ready}
use Rattle.writer2.specs.Node2.{boot_piece, plain-piece}
use Rattle.writer2.proofs.many.put_piece.Goals as goal

pub number_of-source-requires : goal.number_of-source-requires
number_of-source-requires c = rw c.get.ensures (boot_ready c.in-Bootstrap.is c.requires.known.ready).0

pub put_turned-requires-clause-bits : goal.put_turned-requires-clause-bits
put_turned-requires-clause-bits c = let d = c.deref.ensures in rw d.0 (boot_ready c.in-Bootstrap.is c.requires.known.ready).1

pub returns-in-Bootstrap : goal.returns-in-Bootstrap
returns-in-Bootstrap c =
    let d = c.deref.ensures in
    put_text (boot_piece c.args.p c.args.opened c.args.live.now c.args.node.now c.in-Bootstrap.is (rw c.get.ensures at c.number_of-source.ensures) d.0) (put_both c.put_opening.ensures c.put_turned.ensures)

pub returns-in-Input : goal.returns-in-Input
returns-in-Input c = put_text (plain-piece c.args.p c.args.opened c.args.live.now c.args.node.now c.in-Input.is) (put_both c.put_closing.ensures c.put_node.ensures)
