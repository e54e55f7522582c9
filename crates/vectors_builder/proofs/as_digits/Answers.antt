use Rattle.std.proofs.Common.{◌<◌, length, sym, arith}
use Rattle.std.proofs.lemmas.Grind.{get_or_default_zero}
use Rattle.std.proofs.lemmas.List.Edits.{map_over_more}
use Rattle.vectors_builder.specs.Shown.{shown_byte}
use Rattle.vectors_builder.proofs.as_digits.Goals as goal

pub loop-b-preserved : goal.loop-b-preserved
loop-b-preserved c =
    let o = c.loop-b in
    let h : o.b-index < length o.b-items = omega arith in
    rw c.shown.ensures (map_over_more shown_byte _ o.b-items o.b-index _ (omega arith) o.invariant (sym (get_or_default_zero o.b-items o.b-index _ h)))
