use Rattle.circuit.specs.View.{gate_of}
use Rattle.retuning.specs.Kept.{gate_cell}
use Rattle.header.specs.Small.{SmallGate, seen_at}
use Rattle.cells.specs.Pieces.{flat_seen, pieces_start, piece_room, piece_turn, pieces_done, cell_room, pad_begun, pad_room, padded_put}
use Rattle.header.proofs.written.put_gates.Goals as goal

pub loop-gate-init : goal.loop-gate-init
loop-gate-init c = pieces_start (λ x. gate_cell (gate_of x)) _ _ (flat_seen gate_cell gate_of c.args.gates.now)

pub put_gate-requires : goal.put_gate-requires
put_gate-requires c =
    let l = c.loop-gate in
    record {
      small = seen_at SmallGate gate_of c.args.gates.now l.gate-index _ c.loop-gate-test.true c.requires.small;
      room = piece_room (λ x. gate_cell (gate_of x)) c.args.gates.now l.gate-index l.invariant _ c.loop-gate-test.true (cell_room 864 c.requires.room);
    }

pub loop-gate-preserved : goal.loop-gate-preserved
loop-gate-preserved c =
    let l = c.loop-gate in
    piece_turn (λ x. gate_cell (gate_of x)) c.args.gates.now l.gate-index l.invariant _ c.loop-gate-test.true c.put_gate.ensures

pub pad-requires : goal.pad-requires
pad-requires c =
    let p = pieces_done (λ x. gate_cell (gate_of x)) c.args.gates.now c.loop-gate.gate-index c.loop-gate.invariant c.loop-gate-test.false in
    record { begun = pad_begun 864 p; room = pad_room 864 p c.requires.room }

pub returns : goal.returns
returns c = padded_put 864 (pieces_done (λ x. gate_cell (gate_of x)) c.args.gates.now c.loop-gate.gate-index c.loop-gate.invariant c.loop-gate-test.false) c.pad.ensures
