use Rattle.std.proofs.Common.{◌≡◌, Err, rules, arith}
use Rattle.mapper.specs.Asked.{inputs_asked}
use Rattle.mapper.specs.Entry.{text_refused, sound, limits, used_parts, gates_refused, mapped_is, inputs_wired, gates_good, gates_room, outputs_room, outputs_wired}
use Rattle.mapper.proofs.map.Goals as goal

pub returns-in_err-read : goal.returns-in_err-read
returns-in_err-read c =
    let e : c.from_residual.result ≡ Err c.in_err-read.field-0.0 = search rules in
    text_refused _ _ _ _ c.read.ensures _ c.in_err-read.was _ e

pub start-requires : goal.start-requires
start-requires c = inputs_asked c.read.new.circuit (sound _ _ _ c.read.ensures _ c.in_ok-read.was)

pub invariant_of-valid : goal.invariant_of-valid
invariant_of-valid c = record { limits = limits _ _ _ c.read.ensures _ c.in_ok-read.was _ c.used_settings-settings.ensures }

pub map_gates-requires : goal.map_gates-requires
map_gates-requires c =
    let s = sound _ _ _ c.read.ensures _ c.in_ok-read.was in
    let circuit = c.read.new.circuit in
    let good = gates_good circuit _ _ c.start.ensures s _ c.deref.ensures.0 in
    record {
      room = gates_room circuit _ _ c.start.ensures s _ c.deref.ensures.0;
      wired = inputs_wired circuit _ _ c.start.ensures;
      good = good;
      count = omega (arith, good.few);
    }

pub returns-in_err-map_gates : goal.returns-in_err-map_gates
returns-in_err-map_gates c =
    let e : c.from_residual-in_err-map_gates.result ≡ Err c.in_err-map_gates.field-0.0 = search rules in
    gates_refused _ _ _ c.read.ensures _ c.in_ok-read.was _ c.used_settings-settings.ensures _ _ c.start.ensures _ _ _ _ c.deref.ensures.0 _ c.deref-2.ensures.0 c.map_gates.ensures.is _ _
    c.in_err-map_gates.was _ e

pub finish-requires : goal.finish-requires
finish-requires c =
    let s = sound _ _ _ c.read.ensures _ c.in_ok-read.was in
    let circuit = c.read.new.circuit in
    let w = c.in_ok-map_gates.ensures.works in
    record {
      sound = used_parts _ _ circuit c.read.ensures _ c.in_ok-read.was _ c.used_settings-settings.ensures;
      room = outputs_room circuit _ _ c.start.ensures s _ c.deref.ensures.0 w;
      wired = outputs_wired circuit _ _ c.start.ensures s _ c.deref.ensures.0 w;
      centred = w.grown.centred.on (c.start.ensures.centred _);
    }

pub returns : goal.returns
returns c =
    mapped_is _ _ _ c.read.ensures _ c.in_ok-read.was _ c.used_settings-settings.ensures _ _ c.start.ensures _ _ _ _ c.deref.ensures.0 _ c.deref-2.ensures.0 c.map_gates.ensures.is _
    c.in_ok-map_gates.was _ _ _ c.finish.ensures
