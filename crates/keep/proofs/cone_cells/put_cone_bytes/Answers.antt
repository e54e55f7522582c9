use Rattle.std.proofs.Common.{arith, refl}
use Rattle.cone.specs.View.{sources_near, span_narrow}
use Rattle.lines.specs.Put.{put_both, put_text, room, room_text, shorter}
use Rattle.keep.specs.Cones.{bytes_are}
use Rattle.keep.proofs.cone_cells.put_cone_bytes.Goals as goal

pub put-requires : goal.put-requires
put-requires c = shorter _ (room_text (bytes_are c.args.cone.now refl refl refl) c.requires)

pub put_sources-requires : goal.put_sources-requires
put_sources-requires c =
    record {
      near = rw c.sources.ensures.are (sources_near c.args.cone.now);
      room = shorter _ (shorter _ (room c.put.ensures (room_text (bytes_are c.args.cone.now c.sources.ensures.are refl refl) c.requires)));
    }

pub put_coefficients-requires-clause-room : goal.put_coefficients-requires-clause-room
put_coefficients-requires-clause-room c =
    room c.put_sources.ensures (shorter _ (room c.put.ensures (room_text (bytes_are c.args.cone.now c.sources.ensures.are c.coefficients.ensures.are refl) c.requires)))

pub shared_ref_as_front-put_entries : goal.shared_ref_as_front-put_entries
shared_ref_as_front-put_entries c = omega (arith, span_narrow c.args.cone.now, c.args.cone.now.entries_long, c.span.ensures)

pub put_entries-requires : goal.put_entries-requires
put_entries-requires c =
    room (put_both c.put_sources.ensures c.put_coefficients.ensures)
    (room c.put.ensures (room_text (bytes_are c.args.cone.now c.sources.ensures.are c.coefficients.ensures.are c.span.ensures) c.requires))

pub returns : goal.returns
returns c =
    put_text (bytes_are c.args.cone.now c.sources.ensures.are c.coefficients.ensures.are c.span.ensures)
    (put_both c.put.ensures (put_both (put_both c.put_sources.ensures c.put_coefficients.ensures) c.put_entries.ensures))
