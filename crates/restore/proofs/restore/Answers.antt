use Rattle.std.proofs.Common.{◌∙◌, sym, true≢false}
use Rattle.circuit.specs.View.{circuit_of}
use Rattle.restore.specs.Front.{state_behind, header_told}
use Rattle.restore.specs.ReadBack.{good_before, small_slices, header_found, finds_header}
use Rattle.restore.proofs.restore.Goals as goal

pub is_header-requires : goal.is_header-requires
is_header-requires c = small_slices c.args.circuit.now c.requires.sound c.args.place _ _ _ c.deref.ensures.0 c.deref-2.ensures.0 c.deref-3.ensures.0

pub returns-then-is_header-clause-right : goal.returns-then-is_header-clause-right
returns-then-is_header-clause-right c =
    λ st stands.
    let circuit = c.args.circuit.now in
    c.restore_state.ensures.complete st (good_before circuit c.requires.sound c.args.place c.requires.place _ c.len-inputs.ensures.0 st stands.0)
    (state_behind (circuit_of c.args.settings circuit) c.requires.sound c.args.place _ st stands.1)

pub returns-then-is_header-clause-told : goal.returns-then-is_header-clause-told
returns-then-is_header-clause-told c =
    λ unaltered t.
    let circuit = c.args.circuit.now in
    let sound = c.requires.sound in
    let place = c.args.place in
    let header = header_found circuit sound place _ _ _ c.deref.ensures.0 c.deref-2.ensures.0 c.deref-3.ensures.0 _ _ c.is_header.ensures c.if-is_header.true in
    let (st, stands) = header_told (circuit_of c.args.settings circuit) sound place c.args.state.now unaltered header in
    let read =
    c.restore_state.ensures.complete st (good_before circuit sound place c.requires.place _ c.len-inputs.ensures.0 st stands.0)
    (state_behind (circuit_of c.args.settings circuit) sound place _ st stands.1)
    in
    (st, (stands, read.1))

pub returns-else-is_header-clause-right : goal.returns-else-is_header-clause-right
returns-else-is_header-clause-right c =
    λ st stands. absurd (true≢false (
    sym (finds_header c.args.circuit.now c.requires.sound c.args.place _ _ _ c.deref.ensures.0 c.deref-2.ensures.0 c.deref-3.ensures.0 _ _ c.is_header.ensures st stands.1)
    ∙ c.if-is_header.false
    ))
